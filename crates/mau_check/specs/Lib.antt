-- How what is kept stands for what a section says.
pub mod Kept
pub mod LineTerms
pub mod Said
-- contexts
pub mod Marks
-- sorts
pub mod Told
pub mod Variables
pub mod Instances
-- facts
pub mod Named
pub mod FactNumbers
-- what a check answers
pub mod Answer
pub mod Judged
