-- The command line.
pub mod Arguments
