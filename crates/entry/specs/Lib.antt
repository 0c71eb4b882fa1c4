-- The definitions that the contracts cite.
pub mod Fitting
pub mod Enough
pub mod Words
