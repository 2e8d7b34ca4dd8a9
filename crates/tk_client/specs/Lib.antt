-- Which line a client takes, and what it makes of tables
pub mod Taking
-- What bytes mean to a client
pub mod Meaning
-- What a client shows, and what a call on it did
pub mod Feeding
-- Which warnings tables have
pub mod Warnings
-- Which tasks have a long poll, or a long wait
pub mod LongPolls
pub mod LongWaits
-- All warnings of tables
pub mod AnyWarnings
-- What a line changed
pub mod Changes
-- Which bytes are an uninterrupted stream
pub mod Streams
-- The numbers of faults
pub mod Faults
-- Inner: no public clause cites this
pub mod Applying
-- Inner: which tasks can be warned of
pub mod Candidates
-- Inner: how a line says what it changes
pub mod Changing
