-- Where no refusal has a cause, each condition of the row is false.
use Rattle.std.proofs.Common.{◌≡◌, ℕ, Bool, true, false, List, [], ◌∷◌, Option, Some, None, refl, if◌then◌else◌, ◌==◌}
use Rattle.std.proofs.lemmas.Bool.{eqb-true, not-false}
use Rattle.resp_core.specs.declared.value.Value.{Value}
use Rattle.proxy_history.specs.Setting.{Setting}
use Rattle.proxy_history.specs.History.{epoch}
use Rattle.proxy_history.specs.Part.{Past}
use Rattle.proxy_history.specs.Cause.{own_cause, causes, first_true}
use Rattle.proxy_history.specs.declared.refusal.Refusal.{Refusal}
use Rattle.proxy_history.specs.declared.event.Event.TheVariants.{Answered}

abbrev pub AreFalse : List (Bool × Refusal) → Type 0
AreFalse [] = Unit {0}
AreFalse (r ∷ rest) = (r.0 ≡ false) × AreFalse rest

are_false_if : (b : Bool) (r : Refusal) (rest : Option Refusal) → (if b then Some r else rest) ≡ None → (b ≡ false) × (rest ≡ None)
are_false_if true r rest e = absurd cc
are_false_if false r rest e = (refl, e)

pub are_false : (rs : List (Bool × Refusal)) → first_true rs ≡ None → AreFalse rs
are_false [] e = tt
are_false (r ∷ rs) e = let a = are_false_if r.0 r.1 (first_true rs) e in (a.0, are_false rs a.1)

-- a reply that is accepted is of the present epoch
pub is_current : (S : Setting) (x : Past) (host e t : ℕ) (value : Value) → own_cause S x (Answered host e value t) ≡ None → e ≡ epoch host x.steps
is_current S x host e t value n =
    let (_, (_, (not_stale, _))) = are_false (causes S x (Answered host e value t)) n in
    eqb-true e (epoch host x.steps) (not-false (e == epoch host x.steps) not_stale)
