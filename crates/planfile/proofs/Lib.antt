mod Ways
mod Numbers
pub mod Records
pub mod Places
mod Bodies
pub mod Agrees
mod Page
