-- The proofs of what the code does: terms and operators in other numbers, and lists of strategies.
pub mod Terms
pub mod Operators
pub mod StrategyLists
pub mod Apart
pub mod Stays
