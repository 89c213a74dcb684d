-- The statement over the edges.
pub mod EveryEdge
