-- The proofs of the laws, and of what the code does, lowest first.

-- answers of calls
pub mod Outcomes
-- induction over trees, orders, sorted lists, pieces of lists
pub mod Orders
pub mod Sorting
pub mod Sorted
pub mod Pieces
pub mod Induction
-- normal forms, and that uses of axioms keep them
pub mod Normal
pub mod Steps
-- chains of uses of axioms that lead to the normal form, and the law of equality
pub mod Chains
pub mod Leads
pub mod Nested
pub mod Readings
pub mod Law
pub mod Plain
pub mod Wholes
-- solutions, their order, finiteness; what a subject can take
pub mod Variables
pub mod Instances
pub mod Finite
pub mod Solutions
pub mod Ties
pub mod Taken
-- terms of the code, the variables of an item, and keys that stand for names
pub mod Keyed
pub mod Views
pub mod Sizes
pub mod Pairs
pub mod BareTerms
pub mod BareLists
-- computed cases of the definitions
pub mod Examples
