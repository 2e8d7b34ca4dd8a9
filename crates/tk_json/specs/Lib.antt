-- What is read from tokens
pub mod Values
-- What is kept of a value
pub mod Small
