-- The grammar of job files.
pub mod Answers
pub mod Codes
pub mod Drafts
pub mod Forms
pub mod Grammar
pub mod Heads
pub mod Laws
pub mod Lines
pub mod Literals
pub mod Marks
pub mod Meaning
pub mod Readers
pub mod Refusals
pub mod Search
pub mod Statements
pub mod Tails
pub mod Words
