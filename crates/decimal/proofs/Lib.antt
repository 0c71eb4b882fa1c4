mod Reading
mod Spelling
pub mod Laws
pub mod RoundTrip
pub mod Lender
mod Examples
mod Again
mod Part
