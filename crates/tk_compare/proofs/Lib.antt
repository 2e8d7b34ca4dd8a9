pub mod NameLemmas
pub mod PlaceLemmas
pub mod LineLemmas
pub mod CountLemmas
pub mod RecordedLemmas
