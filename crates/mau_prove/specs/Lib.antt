-- What a prover gives.

-- ---- what a user of the crate has to read, in this order

-- what a recorder was told
pub mod Recorded
-- a section that proves that one term leads to another
pub mod Proved
-- ---- what only inner contracts and proofs cite

pub mod Making
pub mod Sorting
pub mod Copies
