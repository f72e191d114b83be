-- A user of the plain listing has to read nothing here: its contract is that of the trait of all listings.
-- ---- what only inner contracts and proofs cite

-- lists over some elements
pub mod Words
-- terms that are gathered
pub mod Gathered
-- what is gathered of a term
pub mod Parts
-- terms that are settled
pub mod Settled
-- the order of lists of values
pub mod Least
-- lists of values that are tried, one after another
pub mod Behind
