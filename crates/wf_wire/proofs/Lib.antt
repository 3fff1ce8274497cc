-- Lemmas.
pub mod Pieces
pub mod Steps
pub mod Numbers
pub mod Eaches
pub mod Nexts
pub mod Firsts
pub mod Headers
pub mod Sessions
pub mod Within
pub mod Puttings
pub mod Growing
pub mod Calleds
pub mod Heards
pub mod AnswersInARow
pub mod ReadInARow
pub mod HeardInARow
pub mod ToldInARow
mod Rows
mod ArgumentsOfKinds
