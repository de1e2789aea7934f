pub mod Laws
pub mod Trips
