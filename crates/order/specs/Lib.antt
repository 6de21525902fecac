-- What the contracts of this crate cite.
pub mod Blocks
pub mod Comparison
pub mod LineRule
pub mod Outcome
pub mod Sheet
pub mod Summary
pub mod Tally
pub mod Words
