-- The laws of the layout.
pub mod LayoutLaws
pub mod Back
