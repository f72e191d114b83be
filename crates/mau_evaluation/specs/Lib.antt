-- What evaluation, rule runs and strategies mean: what a user has to read, in this order.

-- programs, and computations with a budget
pub mod Program
pub mod Run
-- the solutions of a pattern in a normal form, as a list
pub mod Listing
-- evaluation, conditions and sorts, and their laws
pub mod Evaluation
pub mod Laws
pub mod Higher
-- sorts as finite derivations
pub mod HasSort
-- terms that admit no equation
pub mod Irreducible
-- what may be remembered, and how often an evaluation must spend even so
pub mod Kept
-- levels under larger limits; an evaluator under limits; where rules apply, and what they give; the runs of rewrite and frewrite
pub mod Larger
pub mod Engine
pub mod Rules
pub mod RuleRuns
-- strategies, and which terms satisfy them
pub mod Strategy
pub mod Satisfies
-- what comes when it is asked for; the results of a strategy's leaves and the bodies of calls in their order
pub mod Answers
pub mod OrderedLists
-- configurations and their successors; the list that a run reaches; what holds from some limits on; what a run cannot go on without
pub mod Configs
pub mod Reach
pub mod Entries
pub mod Eventually
pub mod Questions
-- the laws of rule runs and strategies
pub mod ClosedLists
pub mod StrategyLaws
