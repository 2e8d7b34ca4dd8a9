-- What a caller must believe: what a token knows, and what a call, a split and a join do
pub mod Views
pub mod Calls
pub mod Roles
pub mod Ours
-- Inner: the rule of the cell, and what its steps tell. No public clause cites these
pub mod Parts
pub mod Steps
