-- The definitions that the contracts on a replayed script cite.
pub mod AnyStore
pub mod Area
pub mod Buffers
pub mod Ending
pub mod Event
pub mod Notes
pub mod Settings
pub mod Told
