-- What a word is.
pub mod Width
pub mod Fields
pub mod Decode
pub mod Narrow
pub mod Legal32
pub mod Tables
pub mod Wf
