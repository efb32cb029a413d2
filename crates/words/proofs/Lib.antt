pub mod Translations
pub mod Flip
pub mod Blocks
pub mod WordLaws
pub mod Worked
