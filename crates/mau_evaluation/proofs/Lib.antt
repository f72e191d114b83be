-- The proofs of the laws, lowest first.

-- what is the same under other limits but for some ends, through all definitions; and from it the laws of one limit alone and of larger limits
pub mod Alike
pub mod Limits
pub mod Levels
pub mod Stay
-- what a computation did that gave a value; at a value's active places all was tested
pub mod Invert
pub mod Places
pub mod Reduced
-- values evaluate to themselves; budgets
pub mod Still
pub mod Falls
-- lists of solutions, without and with extension; bare terms
pub mod Listed
pub mod Within
pub mod BareTerms
pub mod Solved
-- sorts: fuel, and derivations both ways
pub mod Sized
pub mod Heads
pub mod Fuel
pub mod SortsGiven
pub mod Derived
pub mod Known
-- values are irreducible
pub mod Irreducible
-- computed cases of the definitions
pub mod Examples
-- rule runs under other limits, and their budgets
pub mod RunsAlike
pub mod RunLimits
pub mod RunsFall
-- the closed list
pub mod Closed
pub mod Lists
pub mod CameFrom
-- ordered lists: what they hold, what they do under larger limits
pub mod Each
pub mod Shown
pub mod Leaves
pub mod Calls
pub mod Right
pub mod Longer
-- asking for one solution after another
pub mod Asked
pub mod After
-- runs: what is listed inside a test, what an entry came from, what holds from some limits on
pub mod Inside
pub mod Local
pub mod Meet
pub mod OneRun
-- whether configurations are the same; what a run needs; a run computed step by step, and computed runs
pub mod Same
pub mod Needed
pub mod Walk
pub mod RunExamples
