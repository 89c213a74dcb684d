-- The laws of rows.
pub mod ToldLaws
pub mod RowLaws
pub mod ReplayLaws
