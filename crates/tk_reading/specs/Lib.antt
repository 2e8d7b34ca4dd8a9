-- What the bytes of a stream come to
pub mod Outcomes
-- What is shown after each line of a stream
pub mod Shown
-- Fronts of a stream's bytes, each with more lines than the one before
pub mod Fronts
-- How far a client has taken a stream
pub mod Taken
-- What was read of a stream, and what watched its lines
pub mod Reads
-- What a pace has said of when a stream may be shown
pub mod Pacing
