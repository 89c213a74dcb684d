-- The laws of lines.
pub mod LineLaws
pub mod BehindLaws
