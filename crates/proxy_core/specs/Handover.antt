-- What contracts see of a handover.
use Rattle.std.specs.Prelude.{ℕ}
use Rattle.ejector.specs.Ejector.{Ejection}

-- the rules of outlier detection with its state, and how many steps with how many bytes of payload the journal had
pub record HandoverFacts : Type 0 where
  pub detection : Ejection
  pub steps : ℕ
  pub bytes : ℕ
