pub mod Blocking
pub mod CallerLemmas
pub mod Looking
pub mod Stepping
pub mod Walking
pub mod WholeWalk
