-- What a user of settling has to read, in this order.

-- what comes next in the order in which sorts are settled
pub mod Due
-- how far settling is, and what it asks
pub mod Settlings
-- what is proved of it
pub mod Laws
-- where settling ends, in the words of an evaluator
pub mod Solving
-- ---- what only inner contracts and proofs cite

-- where a derivation may begin
pub mod Beginning
