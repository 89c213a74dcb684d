-- The laws of choices, and why some of a file's bytes are enough.
pub mod ChoiceLaws
pub mod Cut
