pub mod Heads
pub mod UsualForms
