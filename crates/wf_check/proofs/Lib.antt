pub mod Places
pub mod Findings
pub mod OneVerdict
pub mod WrittenFilms
