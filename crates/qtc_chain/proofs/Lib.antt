pub mod Missing
pub mod Firsts
pub mod Once
pub mod Chained
