-- Events and histories; what a pass knows; the desk, open and closed; the table's words with its rule; what its steps
-- tell; what a pass is made of; what is gathered when a desk is closed.

-- What is promised: the words that the clauses of public functions stand on.
pub mod History
pub mod Pass
pub mod Desk
-- What is kept inside.
pub mod Rule
pub mod Plays
pub mod Inside
pub mod Ending
