-- What a future's calls answer, and what they leave.
pub mod Log
pub mod Booked
pub mod Future
pub mod Steps
pub mod Answering
pub mod Legal
pub mod Core
pub mod Ends
pub mod Runs
pub mod Laws
