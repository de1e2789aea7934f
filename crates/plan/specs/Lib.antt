pub mod Packed
pub mod Plans
pub mod Places
pub mod Compare
pub mod Told
