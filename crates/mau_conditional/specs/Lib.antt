-- Listings whose solutions are shown where a condition holds under them.

-- ---- what a user of the crate has to read, in this order

-- which solutions are shown, and how a listing is left
pub mod Where
-- the sorts of values, and what may come of asking a condition
pub mod Meant
-- what is proved of these
pub mod Laws
-- ---- what only inner contracts and proofs cite

-- the next solution under which a condition holds
pub mod NextWhere
