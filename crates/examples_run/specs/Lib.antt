-- The definitions that the contracts cite, beside the machine's.
pub mod Rows
