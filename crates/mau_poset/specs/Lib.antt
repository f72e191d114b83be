-- Sorts under their subsort order, and the kinds above them.

-- ---- what a user of the crate has to read, in this order

-- the order, its kinds, and why subsort pairs make none
pub mod Order
pub mod Fault
-- what is proved of these
pub mod Laws
-- ---- what only inner contracts and proofs cite

-- how an order is built from pairs, and kept as a table of bits
pub mod Graph
pub mod Closure
pub mod Labels
pub mod Table
pub mod Built
