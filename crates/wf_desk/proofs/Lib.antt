-- Lists and histories; how each step keeps the rule, by the word that it is on; from the object taken out to the object
-- put back; passes; the end.
pub mod Logs
pub mod StepsWithoutEvent
pub mod Tickets
pub mod HistoryGrows
pub mod Seats
pub mod Events
pub mod Passes
pub mod OneHistoryOfAllPasses
pub mod TableAtTheEnd
