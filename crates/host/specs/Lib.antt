-- The definitions that the contracts on the host end cite.
pub mod Asked
pub mod Cause
pub mod StepRule
pub mod Model
pub mod Picked
pub mod Rule
pub mod Left
pub mod Answers
pub mod Hear
pub mod Side
