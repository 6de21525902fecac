-- The definitions that the contracts of the reader cite, and its laws.
pub mod Fault
pub mod State
pub mod Read
pub mod Laws
