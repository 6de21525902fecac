-- The lemmas on played lists.
mod Ones
mod Lists
