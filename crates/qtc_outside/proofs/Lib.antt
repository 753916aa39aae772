pub mod ShelfLemmas
pub mod WritingLemmas
pub mod LoadingLemmas
