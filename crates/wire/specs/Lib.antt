pub mod Errors
pub mod Read
pub mod Integers
pub mod Bits
pub mod Output
