pub mod Numbers
pub mod Collected
pub mod Asked
pub mod Outcomes
pub mod Readings
pub mod Arrays
