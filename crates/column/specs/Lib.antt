pub mod Types
pub mod Columns
pub mod Fields
pub mod Layout
pub mod Packed
pub mod Stops
