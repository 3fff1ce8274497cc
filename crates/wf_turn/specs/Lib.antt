-- The clients of a script: their programs, their turns, and the film of an order of turns.

-- What is promised: the words that the clauses of public functions stand on.
pub mod Names
pub mod Puts
pub mod Calls
pub mod Program
pub mod Ready
pub mod Quota
pub mod Turns
pub mod Play
pub mod Moments
pub mod Serial
pub mod Films
pub mod Going
pub mod Replayed
pub mod MadePlay
pub mod Playing
-- What callers prove with: words and facts that other crates use.
pub mod Played
-- What is kept inside.
pub mod Index
pub mod Tables
pub mod Asked
pub mod Passing
pub mod Inside
pub mod Lending
pub mod Members
