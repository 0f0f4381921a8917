pub mod Deliverables
pub mod Reacting
pub mod Arrivals
pub mod Suited
