-- What a user of the crate has to read, in this order: strategies as trees, and the forms of the code as these. Statements, definitions
-- and programs are records of the code, with lists for their lists.
pub mod Trees
pub mod Strategies
-- Lawful programs: what may be a left side or a head, which variables are bound, when statements and definitions of strategies are lawful,
-- what is built in, and the whole.
pub mod Tops
pub mod Binding
pub mod LawfulStatements
pub mod LawfulStrategies
pub mod BuiltIns
pub mod LawfulPrograms
pub mod Laws
-- What only inner contracts and proofs cite: how deep a strategy is, that its parts are less deep, and a code by which a proof tells two
-- strategies apart.
pub mod Depth
pub mod Falls
pub mod Code
