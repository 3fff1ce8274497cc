-- The command line of `wfplay`.

-- What is promised: the words that the clauses of public functions stand on.
pub mod Words
-- What callers prove with: words and facts that other crates use.
pub mod Meaning
