pub mod Sets
pub mod Ages
pub mod Groups
pub mod Index
pub mod Reservation
pub mod Laws
