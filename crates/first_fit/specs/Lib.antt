pub mod Choices
pub mod Trying
pub mod Beside
pub mod Room
