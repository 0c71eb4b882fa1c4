mod Kept
mod Runs
