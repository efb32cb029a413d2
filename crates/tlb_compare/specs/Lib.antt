pub mod Agreement
pub mod Forgetful
