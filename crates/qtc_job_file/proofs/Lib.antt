pub mod BoundLemmas
pub mod KeywordLemmas
pub mod TextLemmas
