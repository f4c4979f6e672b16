-- The hosts' turns in a sweep, one after the other.
use Rattle.std.proofs.Common.{◌≡◌, ℕ, ◌+◌, Bool, true, false, not, List, get_or, refl, add-one, if◌then◌else◌}
use Rattle.ejector.specs.declared.host.HostState.{HostState}
use Rattle.ejector.specs.declared.settings.Rules.{Rules}
use Rattle.ejector.specs.State.{fresh_host}
use Rattle.ejector.specs.Trips.{may_eject}
use Rattle.ejector.specs.Sweeps.{out_at, out_after_turn}
use Rattle.ejector.specs.Counting.{at_turn, is_ejected_at, is_kept_at, tripped_host}

module _ (R : Rules) (now : ℕ) (tripping : ℕ → Bool) (first : ℕ) (xs : List HostState) (h : ℕ) where
  pub out_more : out_at R tripping first (h + 1) ≡ out_after_turn R (tripping h) (out_at R tripping first h)
  out_more = rw add-one refl

  pub turn_yes : (may : Bool) (s : HostState) → tripping h ≡ true → may ≡ may_eject R (out_at R tripping first h) → s ≡ get_or xs h fresh_host
      → tripped_host R now may s ≡ at_turn R now tripping first xs h
  turn_yes may s t m e = rw (t, m, e) refl

  pub turn_no : tripping h ≡ false → at_turn R now tripping first xs h ≡ get_or xs h fresh_host
  turn_no f = rw f refl

  pub turned : (may : Bool) → tripping h ≡ true → may ≡ may_eject R (out_at R tripping first h)
      → (is_ejected_at R tripping first h ≡ may) × (is_kept_at R tripping first h ≡ not may) × (out_at R tripping first (h + 1) ≡ (if may then out_at R tripping first h + 1 else out_at R tripping first h))
  turned may t m = (rw (t, m) refl, rw (t, m) refl, rw (add-one, t, m) refl)

  pub not_turned : tripping h ≡ false
      → (is_ejected_at R tripping first h ≡ false) × (is_kept_at R tripping first h ≡ false) × (out_at R tripping first (h + 1) ≡ out_at R tripping first h)
  not_turned f = (rw f refl, rw f refl, rw (add-one, f) refl)
