-- The facts that the functions' proofs rest on.
mod Over
mod Setups
mod Acts
mod Sizes
mod ByCall
mod Asking
mod LineLaws
mod Stepping
mod Written
mod Finishing
mod ByteLaws
mod Endings
mod Feeding
pub mod LinesDone
mod Typed
pub mod Doors
pub mod Laws
pub mod Runs
pub mod Bounds
mod Examples
