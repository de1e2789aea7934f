pub mod Jumps
pub mod Handles
pub mod Lent
