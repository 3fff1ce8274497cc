-- What a core makes of the messages of its clients.

-- What is promised: the words that the clauses of public functions stand on.
pub mod Kinds
pub mod AnswerBytes
pub mod Bodies
pub mod Pixels
pub mod Drawing
pub mod Bands
pub mod Pictures
pub mod Ticks
pub mod Putting
pub mod Heard
pub mod Runs
-- What is kept inside.
pub mod Reading
pub mod Steps
pub mod RoomFor
