-- words one after another, and parts
pub mod Running
-- words by their roles
pub mod Tables
-- the text of a strategy leads behind it
pub mod Reading
-- what stands in a state
pub mod Standing
-- one word more
pub mod Stepping
-- a state may go on; the end, and the first word at fault
pub mod Completing
-- each text has one answer
pub mod Answering
-- the reader of the code
pub mod Coding
-- the pieces before a fault
pub mod Before
pub mod Closing
pub mod Leading
-- the pieces that the reader of the code has
pub mod Found
