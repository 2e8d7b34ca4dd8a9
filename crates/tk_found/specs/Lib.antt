-- The lines of what is odd
pub mod Lines
-- What the view of a stream with them writes
pub mod Views
