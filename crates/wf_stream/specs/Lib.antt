-- The buffers of a stream and how they are kept; the streams that are kept, how, their counts, and names that begin and end.

-- What is promised: the words that the clauses of public functions stand on.
pub mod Buffers
pub mod Order
pub mod Counts
pub mod Streams
pub mod Names
-- What callers prove with: words and facts that other crates use.
pub mod Renames
-- What is kept inside.
pub mod Inside
pub mod Placed
pub mod StreamTable
pub mod CrossReferences
