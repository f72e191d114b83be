-- What derivations mean, to be read in this order.

-- the terms of a section, and what its facts say
pub mod Lines
pub mod Says
-- what some facts show
pub mod Shown
-- justified facts and sections
pub mod Justified
-- what can stand in a justified section, and the terms that it names
pub mod Derivable
pub mod Written
-- rewriting logic: which sentences follow from the statements of a program
pub mod Deduction
-- what is proved of all these
pub mod Laws
