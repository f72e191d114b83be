-- The modules of the prelude as tables, to be read in this order.

-- how a declaration and an equation are written
pub mod Rows
-- the declarations and equations, beside the text that they stand for
pub mod Booleans
pub mod Numbers
-- the tables of the four modules
pub mod Tables
