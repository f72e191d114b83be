-- The proofs of what the code does.
pub mod Parts
pub mod Variables
-- signatures that were built and accepted
pub mod WellDeclared
