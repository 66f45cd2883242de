pub mod Drawing
pub mod Turning
pub mod Families
pub mod Walking
pub mod ClashLaws
pub mod Listing
pub mod CallerLemmas
