-- solutions by other sorts
pub mod Resorted
-- and by an evaluator's table
pub mod Derived
-- values of a solution that a listing gave, as those of a pattern's variables
pub mod Given
-- what comes of asking a condition
pub mod Asked
-- solutions that are passed over, one after another
pub mod Turns
-- what is shown is determined; and from one solution to the next
pub mod Shown
-- listings that can go on, in a store and a table that grow
pub mod Ready
