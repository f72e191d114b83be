-- Lemmas of listings, lowest first.

-- stores and tables that grow
pub mod Growth
-- lists that are compared
pub mod Compared
-- the variables of a pattern
pub mod Placed
-- closed tables
pub mod Closed
-- solutions with empty contexts
pub mod Alone
-- how many elements come behind one
pub mod Counted
-- what may be left
pub mod Finitely
-- the first solutions
pub mod Chains
-- the order of solutions, and whole listings
pub mod Ordered
-- one more entry of a table
pub mod Entered
-- values of answers can be settled
pub mod Settleable
-- solutions and answers
pub mod Answered
-- what values may be
pub mod Valued
-- what may be an argument, by cases
pub mod Parts
-- the sorts of what may be a value
pub mod Readied
-- values under a plain top
pub mod Depths
-- what is put into a store and settled
pub mod Stored
-- what may be an argument is within the limits
pub mod Limits
-- when a listing may be asked
pub mod Asking
