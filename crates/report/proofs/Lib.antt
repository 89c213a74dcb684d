-- The laws of reports.
pub mod NoRefusal
