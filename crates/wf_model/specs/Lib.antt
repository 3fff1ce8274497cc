-- The plain machine: its state, what a call does and answers, and the picture of a scene.

-- What is promised: the words that the clauses of public functions stand on.
pub mod Outcome
pub mod Fitting
pub mod Objects
pub mod Composition
pub mod Core
pub mod State
pub mod Names
pub mod Picture
pub mod Numbered
pub mod DisplaySides
pub mod Ports
pub mod Pipelines
pub mod DisplayCommits
pub mod Display
pub mod Frames
pub mod Streams
pub mod Sides
pub mod Composing
pub mod Registers
pub mod Calls
pub mod Step
pub mod Reached
pub mod QueueOrder
pub mod Beginnings
-- What callers prove with: words and facts that other crates use.
pub mod Counting
pub mod Named
pub mod Effects
pub mod Kept
