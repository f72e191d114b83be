-- Whole modules: what a text's module is with all that it imports, and why it is none.

-- ---- what a user of the crate has to read, in this order

-- accepted modules; sorts and kinds in the numbers of another module; the library of a session
pub mod Modules
pub mod Numbering
pub mod Library
-- what a module includes, in its numbers
pub mod Included
-- what it includes, and the limits that it may pass
pub mod Framed
-- its declarations
pub mod Truth
pub mod Declarations
-- its statements, and what names name in its strategies
pub mod Carried
pub mod Stated
pub mod Named
-- the whole
pub mod Faults
pub mod Flattened
pub mod Prelude
-- what the conditions of commands over a module are read over
pub mod Conditions
-- a module as a program
pub mod Lawful
-- what holds of every library, and the laws
pub mod Libraries
pub mod Laws
-- ---- what only inner contracts and proofs cite

-- names of sorts that are there; what holds of each module; what a module adds to those that it includes
pub mod Known
pub mod Kept
pub mod Behind
-- modules made over those before them; what is read of one in turn; the modules of the prelude
pub mod Made
pub mod Gathered
pub mod Ready
