pub mod Told
pub mod Children
pub mod Flat
-- Inner.
pub mod Runs
