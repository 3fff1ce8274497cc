-- The objects of the display: what holds of them, when they fit a store, and what a call leaves and answers.

-- What is promised: the words that the clauses of public functions stand on.
pub mod Display
pub mod Fits
pub mod Sides
pub mod Does
pub mod Opening
-- What callers prove with: words and facts that other crates use.
pub mod Named
-- What is kept inside.
pub mod Inside
pub mod Places
