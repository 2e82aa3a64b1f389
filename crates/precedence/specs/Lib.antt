pub mod Laws
pub mod Keys
pub mod Deadlines
pub mod Periods
pub mod Rankings
pub mod Orders
