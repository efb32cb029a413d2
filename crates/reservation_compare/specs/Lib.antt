pub mod Models
pub mod ListModel
pub mod GroupModel
pub mod Agreement
