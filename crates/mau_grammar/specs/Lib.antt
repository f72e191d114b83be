-- How the terms of a signature are written, to be read in this order.

-- ---- what a user of the crate has to read, in this order

-- productions
pub mod Production
-- precedences, and what holes admit
pub mod Precedence
-- the parts of a form, and of a prefix form
pub mod Parts
-- the productions of a signature
pub mod Productions
-- and all else of its grammar
pub mod Grammar
-- productions by their words
pub mod Index
-- names that stand once
pub mod Names
-- variables among tokens
pub mod Leaves
-- the trees of some tokens
pub mod Trees
