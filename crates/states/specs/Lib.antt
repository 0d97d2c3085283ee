-- Laws for the judgement of a state, and for the start and the end of a run.
pub mod Lengths
pub mod Ends
