-- The lemmas on code bytes, payloads and bodies.
pub mod Bits
pub mod Bodies
pub mod Carried
