-- Boards as bytes.
pub mod Boards
