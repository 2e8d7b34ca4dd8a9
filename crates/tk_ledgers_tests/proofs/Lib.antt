pub mod UseLemmas
pub mod HandUses
