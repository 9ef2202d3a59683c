pub mod Modes
pub mod Commands
pub mod Files
pub mod Descriptions
