-- What the proofs of several functions share.
pub mod Powers
pub mod Matching
pub mod Numbers
pub mod Stages
pub mod Putting
