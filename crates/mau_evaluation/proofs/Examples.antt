-- Computed cases of the definitions. What is expected is said in words beside each.
pub mod Signature
pub mod Numbers
pub mod Conditions
pub mod Sorts
pub mod Arguments
pub mod Limits
pub mod Lawful
