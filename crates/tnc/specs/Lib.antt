-- The definitions that the contracts on the TNC end cite.
pub mod Held
pub mod Model
pub mod Gone
pub mod Request
pub mod Answers
pub mod Answered
pub mod Left
pub mod Hear
pub mod Side
