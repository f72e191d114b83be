-- Tests of strategies.

-- runs that rest while there is no evaluator
pub mod Rests
