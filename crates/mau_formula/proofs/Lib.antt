pub mod Divisors
pub mod Finding
pub mod PowerLemmas
