-- Texts of strategies: what a user has to read, in this order.

-- what single words are
pub mod Words
-- shapes, the text of each, and which are strategies
pub mod Shape
-- beginnings of strategies, and the first word with which none goes on
pub mod Front
-- the pieces of a shape, and what reading gives
pub mod Pieces
pub mod Reading
-- the pieces before a fault
pub mod Before
-- the laws
pub mod Laws
-- What only inner contracts and proofs cite: shapes found word by word.
pub mod Reader
-- the reader of the code
pub mod Machine
