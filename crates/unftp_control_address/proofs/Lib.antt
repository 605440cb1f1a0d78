pub mod NumberLemmas
pub mod OctetLemmas
pub mod TextLemmas
pub mod FindLemmas
pub mod ExtendedLemmas
pub mod ExtendedLawLemmas
pub mod RoomLemmas
