-- The proofs of the laws, lowest first.

-- normal forms and their arguments, read as bare terms
pub mod NormalTerms
pub mod Arguments
-- operators that are declared by a row of the prelude
pub mod FromRows
-- what they give
pub mod BuiltAnswers
-- formulas of numerals
pub mod Literals
