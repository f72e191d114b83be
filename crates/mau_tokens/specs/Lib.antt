-- The tokens of a text, or its first fault.

-- ---- what a user of the crate has to read, in this order

-- what the pieces of a text are, and which text they are the tokens of
pub mod Lexeme
pub mod Spans
pub mod TokensOf
-- where a text ends within a piece
pub mod Ending
-- the function that computes tokens, and what is proved of it
pub mod Computed
pub mod Laws
-- ---- what only inner contracts and proofs cite

pub mod Code
