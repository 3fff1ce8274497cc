-- Handles and what they stand for, and counted values.

-- What is promised: the words that the clauses of public functions stand on.
pub mod Handles
pub mod Pool
pub mod Living
-- What is kept inside.
pub mod Inside
pub mod Lending
