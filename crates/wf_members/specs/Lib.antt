-- Which members each owner has, what each call leaves, and how they are kept.

-- What is promised: the words that the clauses of public functions stand on.
pub mod Membership
pub mod Calls
-- What is kept inside.
pub mod Inside
