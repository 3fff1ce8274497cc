-- Maps by names.

-- What is promised: the words that the clauses of public functions stand on.
pub mod Keys
