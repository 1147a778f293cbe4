pub mod Units
pub mod Lookahead
pub mod Literals
pub mod Read
pub mod Template
pub mod Names
pub mod Laws
pub mod Samples
