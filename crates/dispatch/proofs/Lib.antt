-- What an instruction of 64 bits does where registers have 32.
pub mod NarrowedLaws
