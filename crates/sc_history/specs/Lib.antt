-- The words of demand 2's sentence on SC.
pub mod Sc
pub mod Allows
