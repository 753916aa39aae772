pub mod Journals
pub mod Parts
pub mod Passes
pub mod Rule
pub mod Inside
pub mod Waiting
pub mod Laws
