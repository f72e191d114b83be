-- what is due
pub mod Due
-- what is due in a term is a term
pub mod Terms
-- the identities
pub mod Units
-- what is left of the identities and the term
pub mod Roots
-- where a derivation may begin
pub mod Begun
-- the state of settling
pub mod States
-- where settling ends
pub mod Ended
-- variables and numerals
pub mod Leaves
-- the causes of ends
pub mod Causes
-- entries, as an evaluator asks
pub mod Entries
