pub mod Words
pub mod JournalLemmas
pub mod Replays
pub mod Rows
