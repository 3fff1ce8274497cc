-- Sessions as bytes: what is read, and what it asks for.

-- What is promised: the words that the clauses of public functions stand on.
pub mod Reading
pub mod Taking
pub mod Header
pub mod Messages
pub mod Session
pub mod Bits
pub mod Paints
pub mod Kinds
pub mod Forms
pub mod Words
pub mod Meaning
pub mod Asked
pub mod Answers
pub mod Grown
pub mod Served
-- What is kept inside.
pub mod Putting
pub mod Heard
pub mod Spelling
