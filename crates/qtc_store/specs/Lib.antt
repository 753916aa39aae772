-- What a store of results means, and what its calls answer.
pub mod Batches
pub mod Results
pub mod Visible
pub mod Stored
pub mod Adding
pub mod Adds
pub mod Laws
pub mod Inside
