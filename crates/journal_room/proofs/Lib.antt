pub mod CallerLemmas
mod LegalStepLemmas
