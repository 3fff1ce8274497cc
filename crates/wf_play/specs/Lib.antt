-- What the top call promises: its statuses, and what they say of the bytes and of the notes.

-- What is promised: the words that the clauses of public functions stand on.
pub mod Refusals
pub mod Parts
pub mod Check
pub mod Events
pub mod Sessions
pub mod Report
pub mod Notes
pub mod Big
-- What is kept inside.
pub mod Serving
