-- Lemmas on lists of operators and on limits, lowest first.

-- the list of a term, and its elements
pub mod Elements
-- what holds the successor of the greatest numeral
pub mod Overflows
-- what a call answers for a normal form
pub mod Judged
-- what is collected from bare terms
pub mod Collected
-- instances in their contexts
pub mod Between
-- normal forms read as bare terms
pub mod Nesting
-- what a term within the limits was built of
pub mod Depths
-- the laws
pub mod Standing
-- values of variables
pub mod Values
-- computed cases of the definitions
pub mod Examples
