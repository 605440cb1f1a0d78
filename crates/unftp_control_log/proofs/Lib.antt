pub mod ShownTextLemmas
pub mod UnescapedLemmas
pub mod PrintableLemmas
pub mod PartsLemmas
pub mod WordsLemmas
pub mod HiddenLemmas
pub mod TextLemmas
pub mod RoomLemmas
