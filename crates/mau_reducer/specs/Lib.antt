-- What an evaluator of a program is, to be read in this order.

-- what it goes by
pub mod Basis
pub mod Worlds
-- what its answers mean
pub mod Meant
-- what its values are
pub mod Irreducible
-- ---- what only inner contracts and proofs cite

-- what its handles stand for
pub mod Handles
-- its states
pub mod States
-- tables that are kept
pub mod KeptTables
-- what becomes of a condition that is asked
pub mod Solutions
-- lemmas by which it has the laws of worlds and of evaluators
pub mod KnownHandles
pub mod Fragments
pub mod LaterStates
pub mod MeantLaws
pub mod Flags
