pub mod Histories
pub mod Calls
pub mod Commissioning
pub mod Runs
pub mod Owned
pub mod Clusters
pub mod Service
