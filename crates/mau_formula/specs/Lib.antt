-- Native operators, and the formulas of their results.

-- ---- what a user of the crate has to read, in this order

-- greatest common divisors
pub mod Divisor
-- formulas, and what they give
pub mod Expr
pub mod Value
-- native operators, and tables of them
pub mod Native
pub mod Operator
pub mod Operators
