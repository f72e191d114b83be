-- What a user of rules and their runs has to read, in this order.

-- programs whose rules are run, and evaluators that go by the definitions
pub mod Runnable
-- what a run stands for, and what its calls answer
pub mod Runs
-- what is known of a computation under limits, once calls of an evaluator have answered
pub mod Known
-- uses of rules that were found, and what is known of the search for them
pub mod Found
-- what is told of uses of rules and of runs of them
pub mod Telling
-- rules by the operators under which they may apply, and terms in which none may
pub mod ByTop
-- the places of a term, one after another
pub mod Walk
-- one round of a run
pub mod Rounds
-- what is left of a run, once calls have answered
pub mod Counted
-- a pass over a term, by the terms that are open in it
pub mod Opened
-- passes over the nodes of a store
pub mod Passes
