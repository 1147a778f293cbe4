pub mod Printing
pub mod Tallies
