-- What a pool of threads is, and what its calls answer.
pub mod Machine
pub mod Runs
pub mod Core
pub mod Steps
pub mod Laws
pub mod Slots
pub mod Inside
