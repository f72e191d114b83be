-- How terms are printed, to be read in this order.

-- ---- what a user of the crate has to read, in this order

-- texts that are put together
pub mod Written
-- terms as they are printed
pub mod Printed
-- how the operators of a signature are written
pub mod Layouts
-- the words of printed terms, and what they read as
pub mod Words
-- the words of a term's text
pub mod Worded
-- which names a text can write, and what a text is read as
pub mod Readable
-- what is proved of printing
pub mod Laws
-- ---- what only inner contracts and proofs cite

-- long lists from left to right; names of first sorts
pub mod LeftToRight
pub mod FirstSorts
-- what is found out for this
pub mod Beforehand
-- terms by their numbers
pub mod PrintedIds
