pub mod FirstBytes
pub mod LongTexts
