-- The laws of the file, of the rows and of the text of an answer; and a replay from a file in words (FileWords).
pub mod AnswerLaws
pub mod FileLaws
pub mod RowsLaws
pub mod FileWords
