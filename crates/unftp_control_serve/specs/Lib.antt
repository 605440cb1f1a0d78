-- To be read in this order.
pub mod EventMeaning
pub mod ClientLines
pub mod Answering
pub mod Decoder
pub mod ErrorTexts
pub mod Writing
pub mod Endings
pub mod Engine
pub mod Service
pub mod Examples
