pub mod RoundLaws
pub mod Trees
pub mod Walks
pub mod KnownRounds
pub mod CallerLemmas
