pub mod Record
pub mod Calls
-- Inner.
pub mod Steps
pub mod Parts
