-- How many places stand by themselves
pub mod Site
-- How many tasks of a place are warned of
pub mod Warned
-- What is added up of the tasks of a place
pub mod Sums
-- The places of a stream's tasks
pub mod Sites
-- How long the polls of a place's tasks ran, and how long they waited
pub mod Times
-- The histograms of a stream's tasks by place
pub mod TimedSites
-- What stands below a place
pub mod Below
-- The text of places
pub mod Lines
-- One place, with its tasks
pub mod One
-- What the view of a stream by place writes
pub mod Views
-- What places came to within a span of a stream
pub mod Span
-- The text of places within a span
pub mod SpanLines
-- What the view of a span by place writes
pub mod SpanViews
-- What the laws say of places
pub mod Laws
-- What the laws say of the histograms of places
pub mod TimedLaws
-- Inner: no public clause cites this
pub mod Inner
-- Inner: what is added of the tasks that a line changed
pub mod Adding
