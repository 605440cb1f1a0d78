-- To be read in this order.
pub mod LogLine
pub mod Known
pub mod Meaning
pub mod Exchanges
pub mod ExchangeLine
