-- Rows that were found, and laws for the turn of the search.
pub mod Within
