-- Lemmas, lowest first.
-- places of variables, and terms whose holes are named
pub mod Ranges
pub mod Places
pub mod NamedTerms
-- the modules of a text
pub mod Knowing
-- conclusions
pub mod Concluding
-- answers of sections, and documents
pub mod Saying
