-- Lemmas of evaluation over a store, lowest first.

-- which arguments are evaluated
pub mod PlacesNamed
-- kinds of terms
pub mod KindsKept
-- tops that change
pub mod Tops
-- the limits
pub mod Limits
-- values of variables
pub mod Bound
-- contexts
pub mod Around
-- tables of sorts
pub mod PlainTables
-- sorts without memberships
pub mod PlainSorts
-- what comes by enough levels
pub mod Comes
-- solutions that are left
pub mod Leftover
-- kinds and contexts of solutions
pub mod SortKinds
pub mod DerivedKinds
pub mod Fitting
-- values of solutions
pub mod Valued
-- candidates
pub mod Candidates
-- equations by their numbers
pub mod Numbered
-- left sides without axioms
pub mod FreeMatches
-- operators that stay on top
pub mod FirmTops
-- built-ins
pub mod BuiltTables
-- what built-ins give
pub mod Answering
-- what is left of all that may be applied
pub mod AttemptsLeft
-- equations that are passed by
pub mod KeptOrders
-- the order of equations
pub mod InOrder
pub mod Ordered
-- compiled equations
pub mod CompiledAt
-- later stores
pub mod LaterStores
-- values of built-ins
pub mod Taken
-- the last candidate
pub mod Lately
-- what it makes
pub mod MadeOf
-- steps that are told
pub mod Stepped
-- variables of a statement that are bound in order
pub mod AllBound
