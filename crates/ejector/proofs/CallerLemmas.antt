-- What a crate above cites of outlier detection.

-- the hosts that are out in a state, as the limit counts them
pub use Rattle.ejector.proofs.OpeningLemmas.{state_out}
-- before the first mark the state is the opening, and fresh hosts are one
pub use Rattle.ejector.proofs.OpeningLemmas.{opening_first, fresh_opening}
-- what marks lead to from an opening is one again
pub use Rattle.ejector.proofs.OpeningLemmas.{openings_stay}
-- settings without a fault are in range
pub use Rattle.ejector.proofs.SettingsRangeLemmas.{in_range}
-- rules that differ in no field are the same
pub use Rattle.ejector.proofs.SettingsDifferenceLemmas.{no_difference}
