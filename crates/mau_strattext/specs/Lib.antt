-- Strategies of a text: what a user has to read, in this order.

-- what strategies are read over, and what a name names there
pub mod Setting
-- the fragments of a condition in a strategy
pub mod Fragments
-- what a strategy reads as
pub mod Reads
-- the first fault of its names and terms
pub mod Faults
-- what the words of a strategy read as, or why they are none
pub mod Strategies
-- what terms of a strategy that is read are
pub mod Lawful
-- the law
pub mod Laws
-- What only inner contracts and proofs cite: strategies put together piece by piece.
pub mod Building
pub mod Terms
