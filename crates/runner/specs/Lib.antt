-- The definitions that the contracts cite.
pub mod Listing
pub mod Kept
pub mod Doors
pub mod Runs
