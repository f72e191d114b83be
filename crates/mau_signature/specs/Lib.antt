-- Operators: which declarations are of one operator, their attributes, and the signature that they make.

-- ---- what a user of the crate has to read, in this order

-- forms and names of operators, attributes, and why declarations make no signature
pub mod Form
pub mod Names
pub mod Attributes
pub mod Faults
-- signatures, and trees over them
pub mod Signature
pub mod OverSignature
-- the signature of some declarations
pub mod Made
pub mod FaultOf
-- what is proved of these
pub mod Laws
-- ---- what only inner contracts and proofs cite

pub mod Judged
pub mod Keys
pub mod Distinct
pub mod Kinds
pub mod Built
pub mod Lowest
