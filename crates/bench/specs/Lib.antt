pub mod Lists
pub mod ListsLaw
