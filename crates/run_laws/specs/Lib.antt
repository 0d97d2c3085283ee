-- Demand 3: the theorems about the run.
pub mod Theory
pub mod Marks
pub mod Sections
pub mod Waiting
pub mod Plans
pub mod Facts
pub mod States
pub mod Ticks
pub mod AnyChoice
pub mod Statement
pub mod Readings
