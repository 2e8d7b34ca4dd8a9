-- The places of a stream's tasks
pub mod Places
-- Which items are shown, and in which order
pub mod Queries
-- A text that is typed at keys
pub mod Typed
-- How many tasks there are in each state
pub mod States
-- Which tasks wait
pub mod Waiting
-- The lines that tell of tasks, resources and operations
pub mod Lines
-- The lines that tell what is odd
pub mod Findings
-- The line that draws how many tasks waited
pub mod Courses
-- Which tasks stand on a screen
pub mod Pages
-- The lines that tell of places
pub mod PlaceLines
-- All that is told of one place
pub mod PlaceView
-- The lines of a screen
pub mod Frames
-- Inner: no public clause cites these
pub mod Walks
-- What is told of the histograms of one task
pub mod Histograms
-- The operations that a task polls, and what they belong to
pub mod Polled
-- All that is told of one task
pub mod Details
-- What keys ask a screen for
pub mod Keys
-- The lines of a screen that keys ask for
pub mod Shown
