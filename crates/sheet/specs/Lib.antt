-- The definitions that the contracts cite.
pub mod Sheet
pub mod Shipped
