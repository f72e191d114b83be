-- Computed cases of each definition.
pub mod Signature
pub mod NormalForms
pub mod Orders
pub mod Solutions
pub mod Terms
pub mod Values
