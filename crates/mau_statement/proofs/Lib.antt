-- tops of normal forms
pub mod Topped
-- what is read part by part
pub mod Kinded
pub mod Handed
-- variables of what is read
pub mod Own
-- variables that are bound
pub mod Unbound
-- what is read of a statement is one thing
pub mod OneStatement
pub mod Lawfulness
-- statements with too many fragments
pub mod Again
pub mod Passing
