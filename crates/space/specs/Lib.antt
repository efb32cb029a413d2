pub mod Kept
pub mod Fill
pub mod Space
pub mod Plain
