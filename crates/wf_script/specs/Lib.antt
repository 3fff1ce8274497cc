-- Scripts: what one is, its text, and what bytes stand for one.

-- What is promised: the words that the clauses of public functions stand on.
pub mod Script
pub mod Words
pub mod Rules
pub mod Pick
pub mod Spelled
pub mod Fields
pub mod PaintWords
pub mod Given
pub mod Verbs
pub mod Streams
pub mod Forms
pub mod Visible
pub mod Grammar
pub mod Canonical
pub mod Generator
pub mod Breaches
-- What is kept inside.
pub mod Table
pub mod Items
pub mod Seen
pub mod Reader
pub mod Text
pub mod Token
pub mod Told
