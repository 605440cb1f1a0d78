pub mod CommandMeaning
pub mod ErrorParts
pub mod ErrorMeaning
pub mod ParseRefusal
pub mod ReplyMeaning
pub mod PartsMeaning
pub mod SentValues
