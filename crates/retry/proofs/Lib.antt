-- The laws of the loop checker.
pub mod ClassLaws
pub mod ScanLaws
pub mod BlockLaws
pub mod ViewLaws
pub mod PlaceLaws
pub mod ReasonLaws
pub mod ShapeLaws
pub mod VersionLaws
