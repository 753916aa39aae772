-- What an engine works on, what it does, and what follows.
pub mod Workload
pub mod Machine
pub mod Runs
pub mod Laws
pub mod OwnPasses
pub mod Driving
pub mod Inside
pub mod EngineParts
pub mod Gathering
pub mod Desks
pub mod WorkedOut
pub mod Turns
pub mod Working
pub mod BroughtIn
pub mod Endings
