-- Tasks that give values to futures, one after the other, and what waits for several futures.
pub mod Tasks
pub mod Turns
pub mod TaskJournals
pub mod Runs
pub mod Inside
pub mod Places
pub mod Waits
pub mod Ready
