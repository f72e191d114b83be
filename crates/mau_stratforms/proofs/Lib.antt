pub mod Making
pub mod Bodies
pub mod Sames
pub mod Leaves
