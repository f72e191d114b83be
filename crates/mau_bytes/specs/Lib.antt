-- Where bytes come from and go to.

-- ---- what a user of the crate has to read, in this order

-- faults of reading and writing, and how many there were
pub mod Faults
-- sources and sinks in memory
pub mod Memory
-- sources and sinks over the streams of the standard library
pub mod Standard
