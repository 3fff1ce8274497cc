-- What C's calls make of the things that its handles lead to.

pub mod Handles
pub mod Things
