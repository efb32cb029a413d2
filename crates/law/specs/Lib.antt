pub mod Faults
pub mod Calls
pub mod PageMap
pub mod Refusals
pub mod Law
pub mod Runs
pub mod Determined
pub mod Examples
