pub mod SoundRecords
pub mod Listed
pub mod WholeTables
