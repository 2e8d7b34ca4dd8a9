-- Numbers in units that people read, and texts in columns
pub mod Texts
-- The first items of a ranking
pub mod Rankings
-- Lines that are cut to a terminal's size
pub mod Screens
