pub mod TheRun
pub mod Shortcuts
pub mod Rows
pub mod Plans
pub mod Table
