-- The proof of the delivery law. Frames as they are written and read: Fitting. What is lost, doubled or delivered:
-- Stores, Line, Sync, Books, ToTnc, ToHost, Keeps, Delivers, Runs. When the link falls: Count, Window, Tally, Track, Both, Timer, Falls.
mod Steps
pub mod Fitting
mod Stores
mod Line
mod Sync
mod Books
mod ToTnc
mod ToHost
mod Keeps
mod Delivers
mod Runs
mod Count
mod Window
mod Tally
mod Track
mod Both
mod Timer
mod Setting
mod Falls
pub mod Law
pub mod Wrote
pub mod Handed
pub mod Sides
pub mod Plain
