pub mod Cutting
pub mod Parting
pub mod LineEnds
pub mod Placed
pub mod Spelling
pub mod RoundTrip
