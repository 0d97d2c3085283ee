-- Rules 2 to 8 on the code's lists: the promise, and the laws that its proof cites.
pub mod Judged
pub mod Stages
