-- The lemmas, lowest first.

-- the order of values, the least of some, and lists that hold it
pub mod Keys
pub mod Merge
pub mod Least
-- the lists of a part
pub mod Reached
pub mod Longer
pub mod LongerIds
-- the limits
pub mod Limits
-- terms that are added
pub mod Adding
pub mod ReachIds
-- the values of a list part
pub mod ListValues
pub mod StoredValues
-- the order at the place of a variable
pub mod AtPlace
-- what a term can take as an argument
pub mod TakenLists
pub mod TakenValues
