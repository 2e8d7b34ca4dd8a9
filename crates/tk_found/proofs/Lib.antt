pub mod LineLemmas
pub mod ViewLemmas
