pub mod Demand
pub mod Window
pub mod Figure
pub mod Lighter
