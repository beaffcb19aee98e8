pub use Rattle.range_tracker.specs.Offsets
pub use Rattle.range_tracker.specs.Commands
pub mod Requests
pub mod Limit
pub mod Answers
pub mod Lines
