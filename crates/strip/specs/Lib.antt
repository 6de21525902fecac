-- The definitions that the contracts on the strip cite.
pub mod Records
pub mod Refusal
pub mod Walk
pub mod Shown
