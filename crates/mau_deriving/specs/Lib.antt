-- What a user of derived sorts has to read, in this order.

-- what is known from some number of levels on
pub mod Known
-- conditions that were answered
pub mod Answered
-- what memberships give to a term
pub mod Given
-- the derivation of the sorts of a term
pub mod Derivations
-- what is proved of it
pub mod Laws
-- the derivation as it is kept
pub mod Asking
-- what was derived outlives what others do
pub mod Outliving
-- ---- what only inner contracts and proofs cite

-- all solutions of a pattern, as they are bound
pub mod Listing
