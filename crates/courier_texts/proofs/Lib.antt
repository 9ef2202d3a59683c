pub mod Printed
pub mod Shaped
pub mod Apart
pub mod Quoted
pub mod Alike
pub mod Parts
pub mod Texts
pub mod Appends
