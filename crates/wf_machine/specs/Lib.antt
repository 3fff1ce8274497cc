-- The machine: what a call may answer and what it leaves, and how the machine is kept.

-- What is promised: the words that the clauses of public functions stand on.
pub mod Object
pub mod LeftAlone
pub mod Begun
pub mod Histories
-- What is kept inside.
pub mod Latching
pub mod Ports
pub mod Fitting
pub mod Naming
pub mod Inside
pub mod Starting
pub mod SmallCalls
