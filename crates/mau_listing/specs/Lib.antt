-- What a user of listings has to read, in this order.

-- solutions, by their values and contexts
pub mod Matcher
-- questions, and what solves them
pub mod Question
-- solutions by normal forms alone
pub mod Answers
-- the next solution, and the first ones
pub mod Next
-- questions and solutions by the numbers of a store, and the sorts of its terms
pub mod Asked
-- a number that falls with each solution
pub mod Finite
-- what is settled beforehand
pub mod Prepared
-- what is proved of these
pub mod Laws
-- ---- what only inner contracts and proofs cite

-- what values may be
pub mod Values
-- the variables of a pattern, as the code has them
pub mod Places
