pub mod Opened
pub mod Serving
pub mod Sessions
pub mod Writing
