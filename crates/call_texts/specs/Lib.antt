pub mod Appending
pub mod Showing
pub mod Calls
pub mod Listing
