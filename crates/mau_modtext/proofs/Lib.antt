pub mod ItemLemmas
pub mod Labels
pub mod Outside
pub mod PartLemmas
pub mod Readings
