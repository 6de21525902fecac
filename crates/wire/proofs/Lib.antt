-- The lemmas on stuffing and on the length of wire forms.
pub mod Short
pub mod Stuffing
