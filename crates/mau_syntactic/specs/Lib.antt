-- What it means to match a pattern whose operators have no axioms, to be read in this order.

-- ---- what a user of the crate has to read, in this order

-- operators without axioms
pub mod Free
-- the values that match
pub mod Match
-- terms with values in the places of their variables
pub mod Filled
-- what is proved of these
pub mod Laws
-- ---- what only inner contracts and proofs cite

-- a pattern as a list of steps, and what a step does
pub mod Steps
-- a term as a list of parts, and what a part adds
pub mod Parts
-- variables as places
pub mod Sorted
