pub mod Steps
pub mod Told
pub mod Made
pub mod Whole
pub mod ArgumentSteps
pub mod FragmentSteps
pub mod BuildSteps
pub mod Leaves
pub mod Top
pub mod Bracketed
pub mod Cuts
-- each strategy is one
pub mod OneLeaf
pub mod OneStrategy
