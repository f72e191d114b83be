-- The proofs of the laws, lowest first.

-- sorts that facts tell, and kinds
pub mod MoreSorts
pub mod SortKinds
pub mod Instances
pub mod FactKinds
-- lawful programs
pub mod WellFormed
pub mod FromLawful
-- told runs, from what is known of single steps; steps of statements, rebuilt terms, built-ins
pub mod ToldRuns
pub mod Fitted
pub mod Rebuilt
pub mod BuiltSteps
pub mod LedRuns
-- facts with numbers
pub mod SectionFacts
pub mod Written
-- from facts to deduction, and deduction without statements
pub mod Congruence
pub mod SortsHold
pub mod Sound
pub mod AxiomsAlone
-- computed cases of the definitions
pub mod Examples
pub mod ConditionalExamples
pub mod BuiltExamples
