pub mod Parts
pub mod Refusal
pub mod Life
pub mod Tidy
pub mod Formed
pub mod Calls
