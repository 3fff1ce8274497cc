pub mod Fronts
pub mod Lengths
pub mod Lines
pub mod Checks
pub mod Logs
pub mod Sessions
pub mod Says
mod Rows
pub mod FoundSame
pub mod MadeOrders
