pub mod Objset
pub mod Words
