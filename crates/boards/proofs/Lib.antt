-- The laws of settings files.
pub mod FileLaws
pub mod RuleLaws
pub mod WriteLaws
pub mod WriteRuleLaws
pub mod BlockLaws
pub mod Back
