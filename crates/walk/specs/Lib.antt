pub mod Presence
pub mod Rows
pub mod Updates
pub mod Parts
pub mod Leaps
pub mod Data
-- Inner.
pub mod Examples
