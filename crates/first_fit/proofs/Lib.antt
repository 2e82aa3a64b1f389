pub mod Tries
pub mod Firsts
pub mod Touches
pub mod Knows
pub mod Rooms
