-- What a script's numbers name
pub mod Named
-- What it calls on each item
pub mod Pasts
pub mod Blocks
-- What its lines come to
pub mod Course
pub mod Stops
pub mod Ran
-- Reading a script, and what its run writes
pub mod Transfer
pub mod Script
-- Inner: no public clause cites these
pub mod Threads
pub mod Items
pub mod Handed
pub mod Runs
pub mod Read
