-- What a judged plan and state are, and laws for marks.
pub mod Fits
pub mod Marks
