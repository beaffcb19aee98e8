pub mod Offsets
pub mod Tracked
pub mod Commands
pub mod TrackErrors
