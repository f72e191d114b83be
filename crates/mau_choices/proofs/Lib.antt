-- agreement with a binding, as it is asked and as it is computed
pub mod Agreeing
-- bindings that are extended by the values of a solution
pub mod Extending
-- their variables
pub mod Added
-- the solution that another binding has
pub mod Owned
-- and its values, as they are tested
pub mod Tested
-- the next solution, from what a listing gives
pub mod Next
-- the same by numbers of a store
pub mod Numbered
-- solutions that begin
pub mod Begun
-- later stores and tables
pub mod Later
