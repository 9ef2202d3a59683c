pub mod Command
pub mod Reading
pub mod Saying
pub mod Script
pub mod Word
pub use Rattle.courier_calls.specs.Calls
pub use Rattle.courier_calls.specs.Tally
