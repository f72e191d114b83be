-- What a user of trials has to read.

-- questions as a listing holds them, and values that are tried
pub mod Tried
-- ---- what only inner contracts and proofs cite

-- arguments by their kinds
pub mod Arguments
