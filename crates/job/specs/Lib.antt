pub mod Lines
pub mod WordsLeft
pub mod Words
pub mod Hex
pub mod Settings
pub mod Calls
pub mod Jobs
pub mod Messages
