pub mod Numbers
pub mod Tree
pub mod Reader
pub mod Schemas
pub mod Table
pub mod Filling
