-- What commands answer that evaluate terms.

-- ---- what a user of the crate has to read, in this order

-- answers, and which of them are allowed
pub mod Results
pub mod Runs
-- what is proved of these
pub mod Laws
-- ---- what only inner contracts and proofs cite

pub mod Kept
