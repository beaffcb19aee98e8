pub mod Chunks
pub mod Places
pub mod Lists
pub mod Joins
