pub mod Rule
pub mod Lock
