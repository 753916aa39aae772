pub mod Workers
pub mod Ends
pub mod Checks
pub mod Runs
pub mod Sure
