-- The laws of numbers said by digits.
pub mod NumberLaws
