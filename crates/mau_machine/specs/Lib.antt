pub mod Words
pub mod Uses
pub mod Machine
pub mod Known
pub mod Telling
pub mod Steps
