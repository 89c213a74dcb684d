-- What the contracts of `steplog` cite.
pub mod Digits
pub mod Row
