pub mod Sums
pub mod Shares
pub mod Giving
pub mod Lengths
pub mod Order
pub mod Laying
pub mod Counted
