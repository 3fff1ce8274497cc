-- What a call of composition leaves and answers.

-- What is promised: the words that the clauses of public functions stand on.
pub mod Steps
-- What is kept inside.
pub mod Links
pub mod Screens
