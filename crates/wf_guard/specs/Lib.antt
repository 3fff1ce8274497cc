-- What apps may call, and what their calls leave alone.

-- What is promised: the words that the clauses of public functions stand on.
pub mod Requests
pub mod Policy
pub mod Apps
pub mod Screens
pub mod Serving
pub mod LiveStreams
pub mod Alike
