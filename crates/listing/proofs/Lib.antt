-- The laws that callers cite, and examples.
pub mod Laws
mod Examples
