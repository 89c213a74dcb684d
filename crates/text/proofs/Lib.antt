-- The laws of texts that are put one after another, and of numbers as text.
pub mod PutLaws
pub mod NumberLaws
