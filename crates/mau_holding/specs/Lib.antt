-- Conditions that are asked under a solution.

-- values of a pattern's variables, and the answer to a condition that is asked with a budget
pub mod Holding
