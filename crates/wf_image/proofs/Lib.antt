pub mod Cells
pub mod Fills
pub mod Places
pub mod Apart
pub mod Spans
pub mod Copied
