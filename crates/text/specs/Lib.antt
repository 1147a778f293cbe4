pub mod Wtf8
pub mod Sequence
pub mod Names
pub mod Template
pub mod Answers
pub mod Laws
