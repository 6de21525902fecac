-- What both ends are made of, and the rules of each: the definitions that their contracts cite and that runs of the link are made of.
pub mod Refusal
pub mod Limits
pub mod Counts
pub mod Frames
pub mod Blocks
pub mod Host
pub mod Tnc
pub mod Line
pub mod Ear
pub mod Kept
pub mod Heard
pub mod Named
pub mod Sent
