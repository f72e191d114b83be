-- Sub-lists and contiguous parts, to be read in this order.

-- ---- what a user of the crate has to read, in this order

-- kinds of lists, the order of lists, the next list
pub mod Lists
-- the same of lists of terms, by their numbers
pub mod Terms
-- where a listing stands, and what it ends as
pub mod Place
pub mod Ends
-- all lists of a kind, and how many are left
pub mod Listed
-- calls one after another
pub mod Runs
-- what the code computes, and what it keeps
pub mod Following
-- what is proved of these
pub mod Laws
-- ---- what only inner contracts and proofs cite

pub mod Kept
pub mod Fronts
