-- Faults and their counts, the bytes that went into a sink, and how parts of them join.

-- What is promised: the words that the clauses of public functions stand on.
pub mod Causes
pub mod Bytes
pub mod Doubles
pub mod Standard
pub mod Tally
-- What callers prove with: words and facts that other crates use.
pub mod Parts
