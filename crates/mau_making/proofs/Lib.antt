-- Lemmas, lowest first.
-- variables of statements, added one term after another
pub mod Adding
-- lists that are written one element after another
pub mod Made
-- what stands in a list under a number
pub mod Numbered
-- variables with their values
pub mod Valued
-- sums over lines, one line after another
pub mod Totals
