-- The lemmas on the strip.
mod Laid
mod Found
mod Walk
