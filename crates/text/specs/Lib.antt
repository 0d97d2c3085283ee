-- What the reader and the writer of a table's text promise, and what their parts do.
pub mod Promises
pub mod Passes
pub mod Theorems
