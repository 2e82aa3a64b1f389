pub mod Format
pub mod Shown
pub mod Jobs
pub mod File
pub mod Judging
