pub mod Covering
pub mod Waiting
pub mod Sound
pub mod Folding
pub mod Staying
