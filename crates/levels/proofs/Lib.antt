-- The facts that the functions' proofs rest on, and examples.
mod Laws
mod Kept
mod Examples
