pub mod Shapes
pub mod KindsKept
pub mod Indexed
