-- The parts of a text, and laws for their rows.
pub mod Parts
pub mod Rows
