-- Statements of a module's text: what they read as, what they may say, and why a text is none. To be read in this order.

-- ---- what a user of the crate has to read, in this order

-- what statements are read over
pub mod Context
-- terms and sorts that tokens are
pub mod Parts
-- conditions
pub mod Conditions
-- the top of a normal form: what may be a left side, and what the head of a membership
pub mod Tops
-- statements, and faults
pub mod Statements
pub mod Faults
-- what holds of each statement that is read
pub mod Lawful
pub mod Laws
-- ---- what only inner contracts and proofs cite

-- the first variable of a condition that isn't bound
pub mod Binding
-- statements with too many fragments, while their parts are passed over
pub mod Long
