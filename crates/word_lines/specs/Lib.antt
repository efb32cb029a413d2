pub mod Pieces
pub mod Walk
pub mod Numerals
pub mod Queries
pub mod Responses
