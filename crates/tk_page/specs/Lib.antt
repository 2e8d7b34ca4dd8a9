-- What a course of time keeps of a task at a line
pub mod Samples
-- The numbers of a page
pub mod Figures
-- What is kept of the lines of a stream
pub mod Kept
-- What a page is drawn of besides tables
pub mod Courses
-- What is odd about a task
pub mod Odd
-- Which tasks wait, and how it is known for how long
pub mod Waiting
-- Parts that several sections have
pub mod Places
-- The words for what is odd
pub mod Badges
-- What is odd, in words
pub mod Cards
-- What holds now, above all else
pub mod Banner
-- An attribute's value
pub mod Values
-- What idle tasks wait for
pub mod Idle
-- Strips
pub mod Strips
-- How a strip's boxes and steps stand to the whole
pub mod Within
-- Which tasks are shown, and in which order
pub mod Ranks
-- For how long places held up others
pub mod Charges
-- Who waited for whom, drawn
pub mod Picture
-- The table of tasks
pub mod Rows
-- How long the polls of a place ran
pub mod PollTimes
-- The table of places
pub mod Sites
-- Resources and operations
pub mod Items
-- The head of a page
pub mod Heads
-- The page between its frame
pub mod Drawn
-- Where a reader of HTML stands after a text
pub mod Html
-- What a page is
pub mod Pages
-- In which order the places of two streams stand
pub mod ChangeRanks
-- The page of two streams
pub mod Changed
