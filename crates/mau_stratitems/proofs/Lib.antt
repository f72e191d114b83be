pub mod Staying
pub mod Standing
pub mod Giving
pub mod Beginning
