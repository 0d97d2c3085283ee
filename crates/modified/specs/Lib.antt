-- Laws for the rounds over the arcs, the windows and the pairs that are written.
pub mod Rounds
