pub mod Numbers
pub mod Led
pub mod Plays
