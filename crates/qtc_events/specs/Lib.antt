-- What a future's calls do to its flags, events and thresholds.
pub mod Flags
pub mod Calls
pub mod Journal
pub mod Replay
pub mod Text
pub mod Laws
