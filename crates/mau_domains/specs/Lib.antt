-- What a user of domains has to read, in this order.

-- what a part is, and which terms are of it
pub mod Parts
-- the least value of a kind behind another one
pub mod Search
-- the values of a part, and their order
pub mod Values
-- parts over the terms of a store
pub mod Stored
-- the least of some values behind another one
pub mod Nearest
-- ---- what only inner contracts and proofs cite

-- the lists of a part
pub mod Lists
-- what a term can take as an argument of an associative operator
pub mod Taken
