-- Moments and spans of time
pub mod Moments
-- What words ask for
pub mod Requests
-- What a run of the program does
pub mod Program
