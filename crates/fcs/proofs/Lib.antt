-- Lemmas on the register and the checksum.
pub mod Table
pub mod Linear
pub mod Extended
pub mod Residue
