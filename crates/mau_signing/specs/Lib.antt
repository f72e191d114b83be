-- The signature of declarations over names of sorts, or what is at fault.

-- ---- what a user of the crate has to read, in this order

pub mod Signed
pub mod Refusals
-- what is proved of these
pub mod Laws
