-- The definitions that the contracts on frames cite.
pub mod Frame
pub mod Head
pub mod Kinds
