-- The proofs of the laws, lowest first, and what crates above use of them.

-- the sorts of a program, and what is built in
pub mod Chained
pub mod DeclaredSorts
pub mod BuiltIns
-- what an evaluator goes by
pub mod LawfulMeanings
-- what is told
pub mod ToldRuns
-- listings and computed lists of solutions
pub mod Remaining
pub mod Bridge
pub mod Wholes
pub mod Started
-- sorts that are known where terms are settled
pub mod ValuesFit
pub mod KnownSorts
pub mod KeepsDerived
-- computed cases of the definitions
pub mod Examples
