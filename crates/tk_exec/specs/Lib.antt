-- What a caller must believe: what works give, what their polls leave in the ledgers of their tasks, and what an executor does
pub mod Scopes
pub mod Works
pub mod Futures
pub mod Clocks
pub mod Polls
pub mod Seats
pub mod Places
pub mod Turns
pub mod Drives
pub mod Errors
