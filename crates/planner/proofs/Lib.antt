pub mod Made
pub mod Choosing
pub mod Adopts
pub mod Taking
