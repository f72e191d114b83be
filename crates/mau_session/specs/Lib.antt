-- What the program answers.

-- ---- what a user of the crate has to read, in this order

-- the terms of commands, how they are read and shown
pub mod Terms
pub mod Reading
pub mod Shown
-- commands, and what answers them
pub mod Environment
pub mod Lines
pub mod Matching
pub mod Settled
pub mod Commands
pub mod Answers
pub mod Built
-- what is kept between items
pub mod Query
pub mod RuleRun
pub mod StrategyRun
pub mod State
pub mod RunLines
pub mod StrategyLines
pub mod Bounds
pub mod Where
-- the bytes of all answers, and the program
pub mod RewriteAnswer
pub mod StrategyAnswer
pub mod Transcript
pub mod Meanings
pub mod Run
pub mod Statuses
-- what is proved of these
pub mod Laws
-- ---- what only inner contracts and proofs cite

pub mod Parts
pub mod Next
pub mod Gains
pub mod KeptQuery
pub mod KeptTerms
pub mod KeptWhere
pub mod KeptRun
pub mod KeptStrategy
pub mod KeptState
pub mod RunGains
pub mod StrategyGains
pub mod StrategyReading
