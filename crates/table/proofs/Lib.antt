-- The laws that callers cite, and the facts that they and the functions' proofs rest on.
pub mod Laws
pub mod PieceEnds
pub mod Following
pub mod Cuts
pub mod Ordering
mod Places
mod Begins
mod Filling
mod Finding
mod Examples
