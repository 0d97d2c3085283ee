-- Document 01 as definitions: a module for each of its sections, in its order.
pub mod Rows
pub mod Table
pub mod Lists
pub mod Lent
pub mod Times
pub mod Refusals
pub mod Text
pub mod Order
pub mod Tick
pub mod Run
pub mod Density
pub mod Output
pub mod Claims
pub mod Examples
pub mod Slips
