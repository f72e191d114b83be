-- The contract of the listing is that of the trait of all listings. What a user of the laws has to read, in this order.

-- patterns with variables for their contexts
pub mod Widened
-- what is proved of these
pub mod Laws
-- ---- what only inner contracts and proofs cite

-- widened patterns as the code has them
pub mod Extended
