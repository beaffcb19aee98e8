pub mod Leasts
pub mod Copies
