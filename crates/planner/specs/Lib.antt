pub mod Answers
pub mod Figures
pub mod Refused
pub mod Filed
