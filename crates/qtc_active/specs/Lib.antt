pub mod Rule
pub mod Count
pub mod Inside
