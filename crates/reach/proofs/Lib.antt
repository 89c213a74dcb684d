-- Laws of what a step may change and of putting it back; what every event keeps in range.
pub mod ClassLaws
pub mod ReachLaws
pub mod BackLaws
pub mod Ranges
