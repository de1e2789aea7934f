pub mod Spans
pub mod Pages
-- Inner.
pub mod Scan
pub mod PageScan
pub mod Search
