pub mod TurnStep
pub mod LastLedger
pub mod LegalSteps
