-- The facts that the functions' proofs rest on.
mod Filling
mod Fits
mod Lines
mod WordLaws
