pub mod Steps
pub mod Badges
