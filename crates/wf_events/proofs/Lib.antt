-- Lemmas.
pub mod Differences
pub mod DisplayCalls
pub mod CallsSeen
pub mod Gone
pub mod Pairs
pub mod QueueTold
pub mod StepSeen
pub mod TurnsLogged
pub mod TurnSeen
