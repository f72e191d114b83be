-- What is built in, in lawful programs.

-- ---- what a user of the crate has to read, in this order

-- what is asked of native operators
pub mod NativeNumerals
-- what is proved
pub mod Laws
-- ---- what only proofs cite

pub mod Declared
