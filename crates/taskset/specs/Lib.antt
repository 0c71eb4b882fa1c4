-- The definitions that the contracts cite.
pub mod Tasks
pub mod Groups
pub mod Chains
pub mod Levels
pub mod Ceilings
pub mod Counted
