-- The laws of case files.
pub mod TableLaws
pub mod HartsLaws
pub mod RuleLaws
pub mod CaseLaws
