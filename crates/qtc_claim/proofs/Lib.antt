pub mod Sums
pub mod Books
pub mod Steps
pub mod Parting
pub mod Tallies
pub mod Seats
pub mod CallLaws
