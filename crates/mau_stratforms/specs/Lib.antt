-- Strategies of a program as numbers.

-- strategies and definitions, as evaluation sees them
pub mod Meanings
-- leaves by numbers, and strategies by numbers over them
pub mod Tables
pub mod Made
-- what only inner contracts and proofs cite
pub mod Parts
