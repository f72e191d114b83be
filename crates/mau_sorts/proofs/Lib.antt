-- Lemmas on the sorts of terms, lowest first.

-- lists of minimal sorts
pub mod MinimalSorts
-- the sets of nodes by those of their arguments
pub mod Derivations
-- tables of sorts
pub mod Entries
-- least sorts
pub mod LeastSorts
-- what is kept of the sorts of a term
pub mod Kept
-- settling a term with all that is below it
pub mod Settling
