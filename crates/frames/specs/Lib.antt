pub mod Faults
pub mod Meaning
pub mod Stock
pub mod Lists
pub mod FreeList
