pub mod Gathers
pub mod Sweeps
pub mod Listings
pub mod PairFits
