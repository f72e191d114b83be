-- Lemmas of the evaluator, lowest first.

-- what lawful programs have
pub mod FromLawful
-- what is built in, and what it gives
pub mod BuiltIns
pub mod GivenKinds
-- the first state
pub mod Beginning
-- conditions
pub mod Conditions
-- sorts by declarations
pub mod SortsGrow
-- heads of memberships, and values
pub mod Heads
-- what leads to what
pub mod Leading
-- what the world's calls give
pub mod Taking
-- the next candidate
pub mod Attempted
-- what is reached by some number of levels
pub mod Reached
-- the answers of an evaluation
pub mod WhatIsMeant
-- bindings in two lists, and as pairs
pub mod Pairs
-- the solutions of matching fragments
pub mod Choosing
-- the settling of a term, as the loop goes on with it
pub mod Settlings
-- where it ends
pub mod SettlingEnds
-- sides and tests of fragments
pub mod Sides
-- conditions that are asked, and their answers
pub mod WhatIsSolved
pub mod Asked
-- tables that are kept
pub mod TablesKept
