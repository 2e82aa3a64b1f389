pub mod Demands
pub mod Climbs
pub mod Shrinks
