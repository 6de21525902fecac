-- The lemmas on the TNC end.
mod Hearing
mod Sending
mod Waiting
mod Rules
mod Naming
mod Acts
mod Laws
