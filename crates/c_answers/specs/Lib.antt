-- The answers in C's form.
pub mod Answers
