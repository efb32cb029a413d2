pub mod Shapes
pub mod Rows
pub mod Faults
pub mod Held
pub mod Blocks
