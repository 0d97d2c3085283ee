-- What the C interface promises: the answers of the entries, as C has them.
pub mod Promise
