-- Settings files (02 [11]).
pub mod First
pub mod File
pub mod Rules
pub mod Write
pub mod WriteRules
