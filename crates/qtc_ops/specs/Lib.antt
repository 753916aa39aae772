-- What the operations of jobs mean.
pub mod Counts
pub mod CountsInside
pub mod Fields
pub mod Folds
pub mod ItemValue
pub mod Kept
pub mod Laws
pub mod ListOps
pub mod Maps
pub mod Numbers
pub mod Operations
pub mod Order
pub mod Predicates
pub mod Prepared
pub mod Texts
pub mod Wildcards
