-- A state as bytes at fixed offsets.
pub mod Layout
