-- Elements and their attributes, the cached scene and its order, and when it is consistent.

-- What is promised: the words that the clauses of public functions stand on.
pub mod Layers
pub mod Values
pub mod Elements
pub mod Order
pub mod Cached
pub mod Sight
pub mod Consistent
pub mod Moves
pub mod Told
-- What callers prove with: words and facts that other crates use.
pub mod Keeping
-- What is kept inside.
pub mod Slots
pub mod Inside
