pub mod Turns
pub mod Ascending
pub mod Lightest
pub mod Counting
pub mod ByLoad
pub mod TurnsLemmas
