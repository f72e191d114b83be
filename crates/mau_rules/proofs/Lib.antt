-- what is known of computations: of parts in a row, of those put together by the words of mau_evaluation, and by the answers of evaluators
pub mod Composed
pub mod Combined
pub mod Base
pub mod Solving
-- lists of which some elements pass; rules in cyclic order; lists in pairs
pub mod Passing
pub mod Cyclic
-- one rule at one place: its solutions, one after another
pub mod Trying
pub mod Rounds
pub mod Valued
pub mod Shown
-- what solves a condition has all variables
pub mod Named
pub mod Answered
pub mod Turned
-- all rules at a place; those that may not apply under its top
pub mod Placed
pub mod ByTop
-- all places of a term, one after another: the walk, and paths through open terms
pub mod Walking
pub mod Paths
-- a term that is put back in its place
pub mod Parted
pub mod Putting
pub mod PuttingBack
pub mod Walked
-- terms in which no rule may apply
pub mod Idle
-- runs
pub mod Running
pub mod Uses
pub mod RunEnds
-- what is told of runs
pub mod Told
pub mod Stepped
-- passes
pub mod Parts
pub mod Counting
pub mod PassLaws
pub mod Skipping
pub mod OpenTerms
pub mod Onces
pub mod PassSteps
pub mod PassEnds
pub mod Closing
pub mod PassWalk
