-- Definitions of strategies: what a user of the crate has to read, in this order.

-- the call that a definition defines
pub mod Calls
-- strategies without unbound variables
pub mod Bound
-- what a definition of a text says, or its first fault
pub mod Definitions
pub mod Faults
-- the law
pub mod Laws
-- what only inner contracts and proofs cite
pub mod Inner
