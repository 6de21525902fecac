-- Lemmas that several proofs share.
mod Cutting
mod Counting
mod Compared
mod Passing
mod Tallying
