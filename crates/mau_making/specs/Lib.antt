-- What sessions write of runs and of themselves: the steps of a run, a session that is made, and its summary.

-- ---- what a user of the crate has to read, in this order

-- a session by its number, and the summary of its transcript
pub mod MadeSession
-- what is counted in its transcript
pub mod Counted
-- the lines of steps
pub mod Trace
-- ---- what only inner contracts and proofs cite

pub mod Variables
