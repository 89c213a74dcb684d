-- What one instruction does, class by class.
pub mod Effect
pub mod Integer
pub mod Memory
pub mod Atomic
pub mod Execute
pub mod Sound
