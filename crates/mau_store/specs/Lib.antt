-- What the numbers of shared terms mean, to be read in this order.

-- ---- what a user of the crate has to read, in this order

-- nodes, stores as lists of nodes, and the extension of a store
pub mod Node
-- values of the code as nodes
pub mod View
-- the trees that numbers stand for
pub mod Trees
-- what is proved of these
pub mod Laws
-- What makes a node that is read findable among stored ones.
pub mod Equal
pub mod Looked
