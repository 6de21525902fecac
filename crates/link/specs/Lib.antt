-- The definitions that the contract of a played list cites.
pub mod Notes
pub mod New
pub mod Played
