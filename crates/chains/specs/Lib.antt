pub mod Blocks
pub mod Contents
pub mod Counting
pub mod Faults
pub mod Links
pub mod Orders
pub mod Nodes
pub mod Chains
