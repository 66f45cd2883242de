pub mod CallerLemmas
pub mod Known
pub mod Pieces
pub mod EntryLemmas
pub mod Gathering
