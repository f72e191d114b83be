-- Lemmas of trials, lowest first.

-- elements of a list
pub mod Among
-- kinds
pub mod OfKind
-- what holds at each place of a pattern
pub mod AtEach
-- bare instances
pub mod Instances
-- when values can be tried
pub mod Trials
-- trials and solutions
pub mod Solved
