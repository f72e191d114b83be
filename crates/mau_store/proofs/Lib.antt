-- Lemmas on nodes and the trees of their numbers, lowest first.

-- the derived `==` of stored nodes
-- a list of nodes into which a node is put
pub mod Places
-- lists of ids, and their numbers
pub mod Arguments
-- the trees of numbers
pub mod Standing
-- one number exactly where there is one tree
pub mod Numbers
-- how deep trees are
pub mod Depths
-- stores that grow
pub mod Growth
-- numbers that stand for normal forms
pub mod Norms
-- lists of arguments, compared
pub mod Compared
-- ids that a sort of std puts into order
pub mod SortedIds
-- computed cases of the definitions
pub mod Examples
-- where a node stands that was looked up
pub mod Looking
