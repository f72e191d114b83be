-- The proofs, lowest first.

-- terms that are their own values
pub mod Rested
-- what is built of the arguments of a term
pub mod Built
-- what is kept of them
pub mod Kept
