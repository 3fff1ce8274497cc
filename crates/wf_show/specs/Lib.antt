-- Clients on threads: a program beside a history of the machine, what playing it makes of its pass, and all clients together.

-- What is promised: the words that the clauses of public functions stand on.
pub mod Played
pub mod Running
pub mod Shown
pub mod Together
pub mod Ends
-- What is kept inside.
pub mod Players
pub mod Clocks
pub mod Opened
