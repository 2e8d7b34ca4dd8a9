-- On specs/Names.antt.
pub mod NamesLemmas
-- On specs/Attributes.antt.
pub mod AttributesLemmas
