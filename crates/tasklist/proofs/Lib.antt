pub mod ListLaws
mod Copies
