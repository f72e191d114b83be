-- Lemmas, lowest first.
-- what is kept of lines
pub mod Standing
-- evaluators that are asked again
pub mod Working
-- copies of terms in another store
pub mod Copied
-- sections in documents
pub mod Documented
-- what was judged
pub mod Concluded
