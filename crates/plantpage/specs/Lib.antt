pub mod Items
pub mod Answers
pub mod Telling
pub mod Quotas
