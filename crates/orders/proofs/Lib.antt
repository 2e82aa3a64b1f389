mod Examples
pub mod Places
