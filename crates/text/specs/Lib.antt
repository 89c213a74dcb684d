-- What the contracts of `text` cite.
pub mod Put
pub mod Number
pub mod Ascii
