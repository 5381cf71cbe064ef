pub mod Places
pub mod ReadingLists
pub mod ListLaws
pub mod Answers
pub mod Readings
