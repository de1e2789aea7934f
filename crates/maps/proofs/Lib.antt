pub mod MapBits
