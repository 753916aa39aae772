-- What the calls over a caller's list do.
pub mod Calls
pub mod Chunks
pub mod Conditions
pub mod Inside
pub mod Laws
pub mod Lists
