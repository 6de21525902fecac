-- The lemmas on the reader: its fields, runs of bytes, the round trip, what it has heard, and counts.
pub mod Counts
pub mod Fields
pub mod Runs
pub mod Tracks
pub mod Trip
