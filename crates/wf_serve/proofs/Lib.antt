mod Replies
mod Carried
mod Ended
mod Puttings
mod Numbers
mod Rectangles
mod Composed
mod Sizes
mod Frames
mod Hearings
mod Running
pub mod Forgotten
pub mod Room
pub mod Elements
pub mod HeardSo
pub mod Again
pub mod Banded
pub mod Pasting
pub mod Turned
pub mod Ends
pub mod Shown
