pub mod Endings
pub mod Requests
