pub mod Agreement
pub mod Places
pub mod Painted
mod AreaRows
