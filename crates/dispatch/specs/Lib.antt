-- A run and what is left of it, what was judged, the promises and the theorems.
pub mod Going
pub mod Judged
pub mod Promise
pub mod Theorems
