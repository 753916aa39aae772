pub mod Claims
pub mod Rule
pub mod Counter
pub mod Inside
pub mod Laws
