-- What is claimed of a replay.
pub mod RowWords
pub mod LogWords
pub mod ReplayWords
pub mod Cut
pub mod Written
pub mod Shown
pub mod Alike
