pub mod Histories
pub mod Calling
pub mod Running
pub mod Owned
pub mod Filling
pub mod Commissions
pub mod Founding
