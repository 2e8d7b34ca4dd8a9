-- What the demo writes
pub mod Demo
-- What the view of a script's stream needs of its run
pub mod Viewed
