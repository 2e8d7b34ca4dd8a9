-- What is compared of a place
pub mod Spent
-- What places and findings are compared by
pub mod Names
-- Which places of two streams are the same
pub mod Compared
-- What a change is
pub mod Changes
-- What stands below a place
pub mod Below
-- The text of what changed
pub mod Lines
-- Which findings two streams have
pub mod Found
-- What is written of two streams
pub mod Text
-- A stream, as it is compared
pub mod Recorded
-- What is written of two streams, and what that comes to
pub mod Views
