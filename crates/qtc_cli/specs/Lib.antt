-- What a call of the program comes to.
pub mod Answered
pub mod Check
pub mod Commands
pub mod Endings
pub mod Forms
pub mod Refusals
pub mod Run
pub mod Seen
