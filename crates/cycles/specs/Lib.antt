-- Cycles: the promise, words as sets of jobs, and chains of arcs in words.
pub mod Promise
pub mod Words
pub mod Chains
