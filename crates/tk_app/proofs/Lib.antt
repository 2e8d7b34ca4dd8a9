-- How long the text of a line is
pub mod Sums
pub mod TextSizes
pub mod PartSizes
pub mod LineSizes
-- How much a script makes
pub mod ToldSizes
pub mod WordSizes
pub mod CourseSizes
-- What its run writes, and how that is viewed
pub mod ShortLines
pub mod Wrote
pub mod Shown
-- The names of the demo's tasks
pub mod Names
