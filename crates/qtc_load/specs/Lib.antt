-- What is loaded of a source, and what stops it.
pub mod Faults
pub mod LoadSteps
pub mod Loads
