pub mod NewLists
