pub mod SettingsFiles
