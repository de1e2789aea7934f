pub mod Reading
pub mod Running
pub mod Flatly
pub mod Slotted
pub mod Named
pub mod Finding
