-- The edges.
pub mod Edge
pub mod Edges
