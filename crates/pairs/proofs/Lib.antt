mod Rule
pub mod Inverses
