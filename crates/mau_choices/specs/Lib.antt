-- What a user of the solutions of a matching fragment has to read.

-- what the solutions give that are left
pub mod Choosing
