pub mod Bounds
pub mod Lengths
pub mod Members
pub mod Relating
pub mod Several
pub mod Window
