-- What evaluation over a store is made of, to be read in this order.

-- what is asked of a program
pub mod Reducible
-- terms by their kinds
pub mod Kinds
-- how a computation ends
pub mod Ends
-- which arguments are evaluated
pub mod Orders
-- variables with their values
pub mod Bindings
-- contexts
pub mod Contexts
-- tables of sorts
pub mod Tables
-- computations that are another one by enough levels
pub mod Comes
-- equations that are tried
pub mod Trying
-- which of them may apply under a top
pub mod ByTop
-- equations that were compiled
pub mod Compiled
-- what is built in of an operator
pub mod BuiltOperators
-- what native operators answer
pub mod Answered
-- what built-ins give as terms
pub mod Giving
-- all that may be applied
pub mod Attempting
-- the candidate that was tried last
pub mod Lasts
-- steps that are told
pub mod Steps
-- ---- what only inner contracts and proofs cite

-- arguments that have changed places
pub mod Exchanged
