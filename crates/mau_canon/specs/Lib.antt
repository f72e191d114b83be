-- What the builder of normal forms gives, to be read in this order.

-- ---- what a user of the crate has to read, in this order

-- normal forms within the limits, and why a term has none
pub mod Within
-- numbers that stand for such normal forms
pub mod Standing
-- the values of variables
pub mod Values
-- what is proved of these
pub mod Laws
-- ---- what only inner contracts and proofs cite

pub mod Judging
