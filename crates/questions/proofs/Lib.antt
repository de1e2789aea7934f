pub mod Questions
pub mod Layouts
