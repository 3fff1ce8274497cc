mod Handles
mod Moved
mod Kept
mod Made
mod Opened
mod Told
