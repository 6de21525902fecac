-- The definitions that the contracts on a line of a script cite.
pub mod Bytes
pub mod Line
pub mod Names
pub mod Numbers
pub mod Reading
pub mod Said
pub mod Unreadable
pub mod Verbs
pub mod Words
