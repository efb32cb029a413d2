pub mod Tables
pub mod Refused
pub mod Fed
