-- Lemmas of the plain listing, lowest first.

-- lists over some elements
pub mod Longer
-- terms that are gathered
pub mod Gathering
-- limits of parts
pub mod Limits
-- terms that are settled
pub mod Settling
-- the least of some lists
pub mod Leasts
-- trials of values
pub mod Trials
-- the numbers of values
pub mod Numbered
-- the next solution
pub mod Nexts
