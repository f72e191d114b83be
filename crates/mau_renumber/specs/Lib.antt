-- What a user of the crate has to read, in this order: declarations and statements in other numbers of sorts, kinds and operators;
-- strategies in these; the numbers that stand in a table of the code; and what stays in numbers that keep kinds.
pub mod Carried
pub mod Strategies
pub mod Tables
pub mod Keeps
-- What only inner contracts and proofs cite.
pub mod Parts
