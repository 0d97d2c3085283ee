-- What the reader's and the writer's parts of a line do, and laws for bytes put piece by piece.
pub mod Put
pub mod Pieces
pub mod Leaves
