-- The lemmas on stores: for those that keep their blocks in order of arrival, and for the laws.
pub mod Totals
pub mod Ways
pub mod Places
pub mod Arrivals
pub mod Laws
