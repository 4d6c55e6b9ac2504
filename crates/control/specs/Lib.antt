pub mod CsConfig
pub mod AlgPreference
