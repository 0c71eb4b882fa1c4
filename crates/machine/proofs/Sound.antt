mod Turns
pub mod Passed
pub mod Standing
mod OneCore
mod Versions
mod Commit
pub mod Keeps
pub mod Single
