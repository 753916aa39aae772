pub mod Prefixes
pub mod Places
pub mod Steps
pub mod Seats
pub mod Follow
pub mod Chains
pub mod Staying
pub mod Children
