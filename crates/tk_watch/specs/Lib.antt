-- The last of items
pub mod Lasts
-- How many tasks waited at each of the last lines
pub mod Waits
-- What places came to in the last 5 seconds
pub mod Recent
-- What a screen tells of what is odd about a stream
pub mod Odd
-- When a stream that is watched is drawn
pub mod Turns
-- What is written of a stream that is watched
pub mod Watches
-- What is written of a stream that is watched at keys
pub mod Keyed
-- A screen of tables. Inner: no public clause cites this
pub mod Drawing
-- How far a watch has come. Inner: no public clause cites this
pub mod Watching
-- How far a watch at keys has come. Inner: no public clause cites this
pub mod Keying
-- What a watch keeps of the lines that came. Inner: no public clause cites this
pub mod Course
