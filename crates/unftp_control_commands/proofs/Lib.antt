pub mod AreaLemmas
mod ReplaceLemmas
mod QuoteLemmas
mod SingleLineLemmas
pub mod UsualReplyLemmas
