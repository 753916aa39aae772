-- What continuations, chains, and the objects that wait for several futures are known by.
pub mod Limits
pub mod Continuing
pub mod Arrivals
pub mod Chains
pub mod Moments
pub mod Laws
