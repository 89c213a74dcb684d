-- The report of a case.
pub mod Report
pub mod NoRefusal
