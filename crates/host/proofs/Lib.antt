-- The lemmas on the host end.
mod Requests
mod Picks
mod Lists
mod Confirming
mod Rules
mod Lengths
mod Acts
mod Laws
