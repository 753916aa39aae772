-- What a pool that threads share is known by.
pub mod Shared
pub mod Working
pub mod Calls
