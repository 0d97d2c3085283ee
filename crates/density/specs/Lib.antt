-- The density test: divisors and multiples, places as a sort gives them, the first failing job, the promise of the entry.
pub mod Divides
pub mod Multiple
pub mod Bounds
pub mod Promise
pub mod Sorted
pub mod Theorems
