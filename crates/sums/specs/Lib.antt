-- The order by relative deadlines, and the sums.
pub mod Order
pub mod Sums
