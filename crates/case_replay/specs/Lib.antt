-- A log replayed from a case file, and the answer as text.
pub mod CaseReplay
pub mod Answer
