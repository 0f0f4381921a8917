pub mod Playing
pub mod Sessions
pub mod Served
