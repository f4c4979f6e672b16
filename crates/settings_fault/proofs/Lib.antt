pub mod PlaceLemmas
pub mod PrintableLemmas
