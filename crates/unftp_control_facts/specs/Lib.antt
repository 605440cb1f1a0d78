pub mod Facts
pub mod Files
pub mod Listing
pub mod Examples
