pub mod Entries
pub mod Encoding
pub mod Writers
pub mod Trips
pub mod Steps
pub mod Rows
