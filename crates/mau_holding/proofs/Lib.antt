-- lists taken together
pub mod Pairs
-- values of a pattern's variables, one by one
pub mod Values
-- evaluators that derive no sort
pub mod Plain
-- values that are settled, in a store and a table that grow
pub mod Settled
-- what an evaluator answers that is asked a condition
pub mod Asked
