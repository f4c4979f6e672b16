-- What stops the first of two parts.
use Rattle.std.proofs.Common.{◌≡◌, ℕ, List, ap, ◌∙◌}
use Rattle.resp_core.specs.declared.parse.Stop.{Stop}
use Rattle.resp_core.specs.declared.parse.Stop.TheVariants as stops
use Rattle.resp_core.specs.ReadingAnswers.{Halts}
use Rattle.resp_core.specs.Reading.{Outcome, and_then}

-- what stops the first of two parts stops both
pub stops_first : {A B : Type 0} (o : Outcome A) (f : A → List ℕ → Outcome B) (e : Stop) (total : Outcome B) → total ≡ and_then o f → Halts e o → Halts e total
stops_first o f stops.Unfinished total h g = h ∙ ap (λ z. and_then z f) g
stops_first o f (stops.Refused r rest) total h g = h ∙ ap (λ z. and_then z f) g
