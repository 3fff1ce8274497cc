-- What the operations on the tables of objects see, leave and answer, when objects and store fit, and how the tables are kept.

-- What is promised: the words that the clauses of public functions stand on.
pub mod Sides
pub mod Links
pub mod Fits
pub mod Owners
pub mod Shows
pub mod Losses
pub mod Does
-- What callers prove with: words and facts that other crates use.
pub mod Named
pub mod Ours
pub mod Sights
-- What is kept inside.
pub mod Rows
pub mod Tracks
pub mod Inside
