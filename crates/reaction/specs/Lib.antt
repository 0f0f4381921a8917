pub mod Reactions
pub mod Applied
