-- The laws that callers cite, and the facts that they and the functions' proofs rest on.
pub mod Laws
mod Orders
mod Verbs
mod Parts
mod Examples
