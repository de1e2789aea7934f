pub mod Table
pub mod Heads
pub mod Passes
-- Inner.
pub mod Ends
pub mod Runs
pub mod Said
pub mod Elements
pub mod Sizes
pub mod Scan
