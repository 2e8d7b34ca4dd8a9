-- A text in pieces, and the words of a command
pub mod Pieces
pub mod Words
pub mod Attributes
-- What a line says, and how a script is run
pub mod Commands
-- The names by which a script stops
pub mod Refusals
