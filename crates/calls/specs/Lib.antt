pub mod Said
pub mod Calls
pub mod Turns
pub mod Meanings
pub mod Promise
pub mod Carrying
