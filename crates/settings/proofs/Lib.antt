-- The laws of settings.
pub mod SettingsLaws
