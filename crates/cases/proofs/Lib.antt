-- The lemmas of the cases.
pub mod Proved
mod StoreCases
mod EndCases
mod RunCase
