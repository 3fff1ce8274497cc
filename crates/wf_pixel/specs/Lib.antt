-- The arithmetic of channels, where a source's pixel shows, and ranges and tests that all definitions share.

-- What is promised: the words that the clauses of public functions stand on.
pub mod Choice
pub mod Along
pub mod Arithmetic
pub mod Place
-- What callers prove with: words and facts that other crates use.
pub mod Equal
