-- The contract of the listing is that of the trait of all listings. What a user of the laws has to read, in this order.

-- the parts of a subject that the walk over a pattern gives
pub mod Parts
-- one step of the walk
pub mod Taken
-- the values that are known while a variable is given one
pub mod Given
-- whether some values make a pattern be of a part
pub mod Possible
-- what is proved of these
pub mod Laws
-- ---- what only inner contracts and proofs cite

-- the first list behind another one, value after value
pub mod Search
-- the order of the values at each place
pub mod Listing
-- the walk over the terms of a store
pub mod Walked
-- values of several parts
pub mod Values
-- patterns in which a variable has another name at some of its places
pub mod Hidden
-- operators whose lists have a sort in no case
pub mod Single
-- how long the values of variables are
pub mod Limited
-- elements whose number is a sum
pub mod Sums
-- values that are too short
pub mod Skipped
-- the search over a store that grows
pub mod Searched
-- variables that few values are left for
pub mod Led
-- values that begin alike
pub mod Fronts
