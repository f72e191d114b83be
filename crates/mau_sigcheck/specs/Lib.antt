-- Which signatures are accepted.

-- ---- what a user of the crate has to read, in this order

-- tuples of sorts and kinds
pub mod Tuples
-- accepted signatures, and why one is not
pub mod Accepted
pub mod Built
pub mod Faults
-- what is proved of these
pub mod Laws
-- ---- what only inner contracts and proofs cite

pub mod Checking
