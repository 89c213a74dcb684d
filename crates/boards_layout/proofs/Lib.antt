-- The laws of boards as bytes.
pub mod BoardLaws
