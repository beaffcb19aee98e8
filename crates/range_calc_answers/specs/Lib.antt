pub mod Words
pub mod Line
pub mod Replies
pub mod Outcome
pub mod Requests
pub mod Faults
