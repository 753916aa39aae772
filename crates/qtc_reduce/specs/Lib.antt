-- What a reduction is known by.
pub mod Blocks
pub mod Core
pub mod Steps
pub mod Inside
pub mod Laws
