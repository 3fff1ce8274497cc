-- Ordered lists over one set of nodes, and how they are kept.

-- What is promised: the words that the clauses of public functions stand on.
pub mod Lists
-- What callers prove with: words and facts that other crates use.
pub mod Together
-- What is kept inside.
pub mod Inside
