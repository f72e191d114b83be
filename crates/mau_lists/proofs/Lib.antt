-- The lemmas, lowest first.
pub mod Following
pub mod Steps
pub mod Trees
pub mod Least
pub mod SharedFronts
pub mod Keyed
pub mod Members
pub mod Ids
pub mod Due
pub mod Buffers
pub mod Next
pub mod Multisets
pub mod Listed
pub mod Runs
pub mod Fewer
pub mod Adjacent
pub mod Examples
