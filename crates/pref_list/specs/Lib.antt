pub mod Ranking
pub mod Picks
pub mod Stages
pub mod Numbers
pub mod Orders
pub mod Prefs
pub mod RuleLists
