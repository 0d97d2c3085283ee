-- What the proofs of several functions share.
pub mod Answers
pub mod Walking
pub mod Whole
