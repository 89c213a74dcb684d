-- The laws of decoded words.
pub mod OffsetLaws
pub mod DecodeLaws
pub mod NarrowLaws
pub mod Legal32Laws
pub mod EntryLaws
pub mod TablesLaws
pub mod ClassLaws
