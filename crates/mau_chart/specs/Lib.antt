-- What a chart is, and what is told of it, to be read in this order.

-- ---- what a user of the crate has to read, in this order

-- what a text reads as, by productions and leaves
pub mod Reads
-- the answer: no reading, exactly one, or two that differ
pub mod Goal
-- the table of what was found, and when it is closed
pub mod Chart
-- trees in a store, and the table that a chart stands for
pub mod Nodes
pub mod Told
-- ---- what only inner contracts and proofs cite

pub mod Table
pub mod Places
pub mod Groups
pub mod Marks
