pub mod Data
pub mod Shapes
pub mod Masks
