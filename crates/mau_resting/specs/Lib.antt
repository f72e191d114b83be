-- What is known of terms that are their own values.
pub mod Rests
-- ---- what only inner contracts and proofs cite

-- it stays known
pub mod Later
