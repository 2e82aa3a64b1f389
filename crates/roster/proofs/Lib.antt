pub mod Jobs
pub mod Ordered
pub mod Searches
pub mod Weights
pub mod Climb
pub mod Filled
