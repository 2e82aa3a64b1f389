pub mod Overs
pub mod Returns
pub mod Notes
