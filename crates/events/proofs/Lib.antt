-- The events one after another, refusal 11 by its rules, and what rows of refusals decide.
pub mod EventLaws
pub mod RuleLaws
pub mod RowLaws
