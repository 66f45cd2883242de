pub mod Chains
pub mod Demands
pub mod FirstChains
pub mod Nexts
pub mod Reasons
pub mod Walks
