pub mod Typed
pub mod Numbers
pub mod Columns
pub mod TaskLaws
pub mod Counting
pub mod LevelList
mod ChainLaws
pub mod GroupLaws
pub mod Chains
mod CeilingLaws
pub mod Ceilings
mod GroupTurns
pub mod Examples
