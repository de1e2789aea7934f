pub mod Slots
pub mod FormParts
pub mod MaskLaws
pub mod StopsMade
pub mod ShapesMade
