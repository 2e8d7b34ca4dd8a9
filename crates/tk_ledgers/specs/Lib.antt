-- What a caller must believe: what a handle shows, and what its calls do
pub mod Handles
pub mod Sums
pub mod Wakers
pub mod Tasks
pub mod Resources
pub mod Ops
pub mod Scopes
pub mod Times
pub mod Beside
pub mod Callers
pub mod Called
-- Inner: what an owner keeps of a histogram, and what is kept of the callers in one hand
pub mod Timed
pub mod Hands
