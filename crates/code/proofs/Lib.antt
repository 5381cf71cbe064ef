pub mod Admission
pub mod Tables
pub mod Digits
pub mod Turns
pub mod Places
pub mod Generators
pub mod Answering
