mod Again
pub mod Counted
pub mod Found
pub mod HexDigits
