-- What changed between two frames, and what a bench keeps of them.

-- What is promised: the words that the clauses of public functions stand on.
pub mod Areas
pub mod Bench
-- What is kept inside.
pub mod Compared
