pub mod Captures
pub mod Links
pub mod Parts
pub mod Places
pub mod Printing
pub mod Reading
pub mod Times
pub mod Windows
