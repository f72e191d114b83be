-- Runs of strategies: what a user has to read, in this order. What a run reaches is said in mau_evaluation.

-- from which entry each one was entered; the state of a run, and its answers
pub mod Traces
pub mod Walks
-- values and lists by numbers
pub mod Sharing
-- configurations by numbers
pub mod Interned
pub mod Configurations
-- strategies by numbers
pub mod Forms
-- What only inner contracts and proofs cite: the steps of a run; that values are compared by their fields.
pub mod Steps
pub mod Compared
pub mod ComparedForms
