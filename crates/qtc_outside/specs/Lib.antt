-- What reading and writing mean.
pub mod Counts
pub mod Source
pub mod Intake
pub mod Loading
pub mod FileTexts
pub mod MemSink
pub mod MemTexts
pub mod Shelf
pub mod ShelfLeft
pub mod StdSink
pub mod SureSink
pub mod SureTexts
