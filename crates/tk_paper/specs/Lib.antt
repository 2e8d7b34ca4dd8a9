-- The markup of a page
pub mod Marks
-- What a page's text is woven of
pub mod Escaping
-- How the parts of a page stand in its text
pub mod Parts
-- A text that is put after what is written
pub mod Pieces
-- What is kept of a list
pub mod Courses
