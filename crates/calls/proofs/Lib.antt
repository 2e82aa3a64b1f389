pub mod Safes
pub mod More
pub mod Turns
pub mod Admitting
pub mod Pinned
pub mod Figured
pub mod Unchanged
pub mod Promised
