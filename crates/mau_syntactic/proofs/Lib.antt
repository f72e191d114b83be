-- The proofs of what the code does, and of the laws, lowest first.

-- places of variables, and their values
pub mod Places
-- steps of trees, and trees of steps
pub mod Stepped
-- what a step asks of the first term
pub mod Taken
-- what the walk knows from step to step
pub mod Walk
-- values of a match, below the subject
pub mod Below
-- normal forms and readings under free operators
pub mod Frees
-- the laws
pub mod Solving
-- the solution of a pattern in a term
pub mod OneSolution
-- terms built by their parts
pub mod Running
-- terms on a stack
pub mod Filling
-- instances built by parts
pub mod Instances
