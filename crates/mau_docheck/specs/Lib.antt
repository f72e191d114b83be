-- What a check of a document writes.

-- ---- what a user of the crate has to read, in this order

-- the modules of a text that are known before an item
pub mod Known
-- how terms with holes are shown
pub mod Holes
pub mod Concluded
-- the bytes of a document's answers
pub mod Answers
pub mod DocumentTranscript
-- ---- what only inner contracts and proofs cite

pub mod Naming
pub mod Kept
pub mod Gains
