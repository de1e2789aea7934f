pub mod Packed
pub mod Made
pub mod Plans
pub mod Places
pub mod Fill
pub mod Alike
pub mod Named
