-- The laws of digits, and that rows are read as they are written.
pub mod DigitsLaws
pub mod TableLaws
pub mod ReadLaws
pub mod RoundTrip
