-- Items with all their parts, each with its own words, or the first fault.

-- ---- what a user of the crate has to read, in this order

-- words, brackets, and what stands outside them
pub mod Word
pub mod Words
pub mod Brackets
pub mod Signs
-- faults, and forms that are known by their names alone
pub mod Faults
pub mod Features
-- parts one after another
pub mod Parts
pub mod Names
pub mod Forms
pub mod Sides
-- statements, declarations, modules
pub mod Statements
pub mod Attributes
pub mod Elements
pub mod Modules
-- commands, and items of all kinds
pub mod Commands
pub mod Items
-- what is proved of these
pub mod Laws
