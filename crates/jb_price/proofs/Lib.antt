pub mod CertLines
pub mod ReadBack
pub mod SpelledCert
pub mod UndercutSteps
pub mod Verdicts
