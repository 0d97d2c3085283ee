-- What the contract of `answer` cites, and the laws of its stages.
pub mod Promise
pub mod Stages
