-- What a check of a film finds.

-- What is promised: the words that the clauses of public functions stand on.
pub mod Verdicts
