-- The definitions that the crates of the engine share.
pub mod Decimal
pub mod Escape
pub mod Items
pub mod ItemsInside
pub mod Laws
pub mod Limits
pub mod Lines
pub mod Pairs
pub mod Parts
pub mod Ranges
pub mod Words
