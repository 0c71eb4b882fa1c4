pub mod Digits
pub mod Laws
pub mod WordLaws
pub mod Bitwise
