-- which texts are numerals, and the numbers that they are
pub mod Numerals
-- what is proved of them
pub mod Laws
