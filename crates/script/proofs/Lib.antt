pub mod Heading
pub mod Lettered
pub mod Sized
