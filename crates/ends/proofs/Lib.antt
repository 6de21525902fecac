-- The lemmas on frames as the ends write and read them.
pub mod Fit
pub mod Writing
pub mod Line
