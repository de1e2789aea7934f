pub mod Writer
-- Inner.
pub mod Listing
