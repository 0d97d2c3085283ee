-- What the choice is handed, and laws for it.
pub mod Fits
pub mod Choice
