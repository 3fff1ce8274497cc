-- Films as bytes, and how they are read.

-- What is promised: the words that the clauses of public functions stand on.
pub mod Film
pub mod Stands
pub mod Frames
pub mod Rules
pub mod Reading
