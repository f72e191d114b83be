-- Which strategies of a command are searched for so far.

pub mod Searched
