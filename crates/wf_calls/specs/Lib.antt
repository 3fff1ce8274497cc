-- The numbers of the codes, the entries of orders, answers and replies, who answers a call, which calls make an object, which bring
-- nothing, and which ports may be declared.

-- What is promised: the words that the clauses of public functions stand on.
pub mod Codes
pub mod Orders
pub mod Replies
pub mod Places
pub mod Lending
pub mod Parts
pub mod Creations
pub mod PortRules
pub mod Requests
