-- The definitions that the contracts cite.
pub mod Pieces
pub mod Fields
pub mod Cut
