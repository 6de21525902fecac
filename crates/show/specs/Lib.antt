-- What the contracts of this program cite.
pub mod Passing
pub mod Settled
pub mod There
pub mod Words
