-- What is kept of the bytes that a reader gives
pub mod Keeping
-- What is told of the line that has a fault
pub mod Telling
-- How a rule is told
pub mod Rules
