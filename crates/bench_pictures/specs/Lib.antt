-- The scenes of the bench.
pub mod Shown
