-- What happens at the display, and the log of it.

-- What is promised: the words that the clauses of public functions stand on.
pub mod Happenings
pub mod Text
pub mod Log
-- What is kept inside.
pub mod Watching
pub mod Queue
pub mod Inside
