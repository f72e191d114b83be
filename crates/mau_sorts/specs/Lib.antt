-- The sorts of terms, to be read in this order.

-- ---- what a user of the crate has to read, in this order

-- sets of sorts, and how they are kept
pub mod SortSets
-- the sorts that a term has, as derivations
pub mod HasSort
-- tables of the sorts of a store's terms
pub mod Table
-- what is proved of these
pub mod Laws
-- ---- what only inner contracts and proofs cite

-- what is computed from the entries of a node's arguments
pub mod Derived
