-- What reading tokens means, to be read in this order.

-- ---- what a user of the crate has to read, in this order

-- what tokens read
pub mod Words
-- numerals that are too large
pub mod TooLarge
-- tokens, productions and leaves in a chart
pub mod VariableIds
pub mod Charted
-- the term of a tree of tokens
pub mod Terms
-- a successor of the greatest numeral
pub mod Overflow
-- trees in the kinds that are asked for
pub mod Goal
-- the term that tokens are, or why they are none
pub mod Parsed
-- what is proved of all this
pub mod Laws
-- ---- what only inner contracts and proofs cite

-- those productions that may read a text, one more
pub mod Forms
-- words that are variables
pub mod Readings
-- what words are by themselves, in order
pub mod Listed
-- and their numbers
pub mod Parses
-- why the one tree is no term
pub mod Results
