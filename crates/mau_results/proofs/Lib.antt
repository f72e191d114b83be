-- The proofs, lowest first.

-- the sort that is shown, by what is kept of a term's sorts; it is one
pub mod ShownSorts
-- the plain answer is one, and an allowed answer by what an evaluator answers
pub mod Allowed
-- a term and its normal form have the same answers; what is beyond the limits ends so
pub mod Normals
-- what a run answers
pub mod RunAnswers
