-- The definitions that the contracts on channels and poll lists cite.
pub mod Channel
pub mod List
