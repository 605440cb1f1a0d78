pub mod TextLemmas
mod ReplyLemmas
pub mod PartsLemmas
pub mod HeldLemmas
pub mod SentLemmas
pub mod WrittenValueLemmas
pub mod SaidLemmas
