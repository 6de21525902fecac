-- The cases that are proved.
pub mod StoreCases
pub mod EndCases
pub mod RunCase
pub mod Proved
