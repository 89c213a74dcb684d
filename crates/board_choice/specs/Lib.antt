-- The board that a program is told to run on.
pub mod Choice
