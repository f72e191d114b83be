-- The definitions on which every layer stands, to be read in this order.

-- ---- what a user of the crate has to read, in this order

-- trees, and the values of the code as trees
pub mod Tree
pub mod View
-- the order of trees, normal forms, the axioms
pub mod Order
pub mod Norm
pub mod Depth
pub mod Axioms
pub mod Lawful
-- bare terms over a signature, equality
pub mod Bare
pub mod Reading
-- instances, solutions, what a subject can take
pub mod Subst
pub mod Solution
pub mod CanTake
-- the variables of an item
pub mod Vars
-- what is proved of all these
pub mod Laws
-- what lies within finitely many trees
pub mod Finite
-- ---- what only inner contracts and proofs cite

pub mod Code
pub mod Falls
