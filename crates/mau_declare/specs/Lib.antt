-- What the elements of a module's text declare.

-- ---- what a user of the crate has to read, in this order

pub mod Words
pub mod Names
pub mod Sorts
pub mod Imports
pub mod Counts
pub mod Readings
pub mod Forms
pub mod Attributes
pub mod Statements
pub mod Elements
pub mod Flattened
pub mod Faults
