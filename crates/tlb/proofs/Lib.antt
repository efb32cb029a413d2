pub mod Rows
pub mod Upto
pub mod Levels
pub mod Found
pub mod Loads
pub mod Stores
