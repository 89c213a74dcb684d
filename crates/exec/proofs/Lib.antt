-- Accesses that trap or don't, and instructions that leave memory as it was.
pub mod AccessLaws
pub mod MemoryByLaws
