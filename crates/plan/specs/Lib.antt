-- The table check with its modified times, and a plan handed in: the promises, and the laws that their proofs cite.
pub mod Bounds
pub mod Modified
pub mod Promise
pub mod Theorems
