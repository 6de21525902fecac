-- The lemmas on poll lists.
pub mod ListLaws
pub mod ListLeft
pub mod ListSeen
