pub mod Cuts
pub mod Fields
pub mod Cursors
pub mod Lines
pub mod LineCursors
pub mod Numbers
pub mod Partial
pub mod Printing
