-- What a document of facts is, to be read in this order.

-- the fields of a line, the lines of a section
pub mod Fields
pub mod Lines
-- documents, and the first line that none has
pub mod Documents
pub mod Faults
-- what is proved of all these
pub mod Laws
-- Only the contracts of inner functions, and proofs, name what follows: how the words of a line are read from left to right, which
-- line a section goes on with, how fields are spelled.
pub mod LineReading
pub mod FactReading
pub mod FaultLines
pub mod Fronts
pub mod Spelling
