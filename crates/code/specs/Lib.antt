pub mod Pairs
pub mod Table
pub mod Rows
pub mod PlaceLaws
pub mod Generator
pub mod Answers
