-- strategies without unbound variables are lawful
mod BoundLawful
-- the variables of what is read
mod Listed
-- a definition without a fault is lawful
mod LawfulRead
-- faults that are handed on
mod Told
-- what words and tokens of a call are
mod CallWords
-- a definition is one
pub mod OneDefinition
