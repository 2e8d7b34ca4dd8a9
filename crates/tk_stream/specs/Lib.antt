-- What tables hold, and what their calls make of it
pub mod Tables
pub mod Polls
pub mod Times
-- What a line says
pub mod Rows
pub mod Lines
-- What a line makes of tables
pub mod Applied
-- What leaves at a moment
pub mod Retention
-- How a line is spelled: its JSON value, and its text
pub mod Spelling
-- The ranges of a line's values
pub mod Ranges
-- Which line a text is
pub mod Outcome
pub mod Reading
-- The numbers of errors
pub mod Errors
-- Inner: no public clause cites these
pub mod Entries
pub mod Slots
pub mod Kept
pub mod Pieces
pub mod Counted
pub mod Spelled
pub mod SmallShapes
-- Where an item stands in its list
pub mod Places
pub mod Fronts
-- An aggregator
pub mod Sent
pub mod Streams
