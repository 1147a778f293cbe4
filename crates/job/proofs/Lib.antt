mod Runs
mod Pairs
pub mod Glued
mod Numbers
pub mod Cuts
mod Turns
mod Pieces
