pub mod View
pub mod Judged
