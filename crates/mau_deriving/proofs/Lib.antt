-- through the combinators of computations
pub mod Known
-- the sorts of a term by its parts
pub mod Members
-- one more term with sorts that are known besides
pub mod Entering
-- the derivation of the sorts of a term, step by step
pub mod StepByStep
-- heads that match a constant
pub mod Constants
-- the values of the solutions of a head
pub mod Values
-- all solutions of a pattern, as they are bound
pub mod ListedAll
-- what lawful programs have
pub mod Lawful
-- what a membership asks of a term
pub mod Asked
-- a term that gets its entry, with what the memberships give
pub mod DerivedMore
-- where sorts end; settled terms are known
pub mod Below
-- a derivation as it is kept
pub mod Kept
-- what was derived outlives what others do
pub mod Outlived
