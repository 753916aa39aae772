-- Which job files there are.
pub mod Canonical
pub mod Keywords
pub mod Laws
pub mod Lawful
pub mod LoadedInside
pub mod Names
pub mod Texts
