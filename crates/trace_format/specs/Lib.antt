pub mod Kinds
pub mod Faults
pub mod Bytes
pub mod Records
pub mod Lines
pub mod Laws
