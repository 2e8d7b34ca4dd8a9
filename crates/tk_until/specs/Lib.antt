-- What a stream says up to a moment
pub mod Front
-- When a stream ends
pub mod End
-- What is still to come of a reader that holds a part of it
pub mod Held
