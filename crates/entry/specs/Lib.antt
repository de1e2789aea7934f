pub mod Heads
pub mod Usual
