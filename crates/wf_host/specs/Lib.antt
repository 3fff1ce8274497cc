-- What an embedder holds beside a machine, and what calls make of both.

-- What is promised: the words that the clauses of public functions stand on.
pub mod Held
pub mod Made
pub mod Rows
pub mod Reading
pub mod PortsOf
-- What is kept inside.
pub mod Painted
