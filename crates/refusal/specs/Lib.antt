pub mod Returned
pub mod Telling
