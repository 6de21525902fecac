-- Runs of the link, and the delivery law.
pub mod Runs
pub mod Law
pub mod Sides
pub mod Plain
