-- What a user of a run of a condition has to read, in this order.

-- where a run is in its condition, and what it answers
pub mod Path
-- what of it is known in a store, and what a level has to do with the store
pub mod Known
-- what it still has to compute, over what a level gives
pub mod Meaning
-- What only calls within the crate cite.
pub mod Bound
pub mod Steps
