pub mod Grammar
pub mod Reader
-- Inner.
pub mod Pending
