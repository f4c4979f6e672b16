-- What it means that nothing can be handed out, and that no command is taken.
use Rattle.std.proofs.Common.{◌≡◌, ◌↔◌, ◌⊎◌, ℕ, Bool, true, false, not, ◌&&◌, nat_lt, is_some, Option, Some, None, refl, sym, ap, ◌∙◌, inl, inr, arith, if◌then◌else◌}
use Rattle.std.proofs.lemmas.Bool.{cases_Bool, ltb-false}
use Rattle.splitter.specs.declared.request.Request.{Request}
use Rattle.resp_core.specs.Tree.{Tree}
use Rattle.proxy_history.specs.Setting.{Setting}
use Rattle.proxy_history.specs.History.{handed_count, is_open, is_finishing}
use Rattle.proxy_history.specs.Part.{Past}
use Rattle.proxy_history.specs.Outcome.{outcome}
use Rattle.proxy_history.specs.Cause.{commands_left, is_ready, own_cause}
use Rattle.proxy_history.specs.CauseLaws.{HasNothingReady}
use Rattle.proxy_history.specs.declared.refusal.Refusal.TheVariants as refusal
use Rattle.proxy_history.specs.declared.event.Event.TheVariants.{Arrived, Handed}

is_none_of : (o : Option Tree) → is_some o ≡ false → o ≡ None
is_none_of None e = refl
is_none_of (Some v) e = absurd cc

-- why nothing is ready
not_ready : (x : Past) (c : ℕ) → is_ready c x ≡ false → (commands_left c x ≡ 0) ⊎ (outcome c (handed_count c x.steps) x ≡ None)
not_ready x c e = elim (cases_Bool (nat_lt 0 (commands_left c x))) [
  | inl t ↦ inr (is_none_of (outcome c (handed_count c x.steps) x) (rw t at e))
  | inr f ↦ inl (omega (arith, ltb-false 0 (commands_left c x) f))
]

nothing_ready : (x : Past) (c unwritten : ℕ) → HasNothingReady x c unwritten → is_ready c x ≡ false
nothing_ready x c unwritten a = elim a.none_ready [
  | inl none ↦
      let zero_left : commands_left c x ≡ 0 = sym a.unwritten_are ∙ none in
      rw zero_left refl
  | inr none ↦ and_false (nat_lt 0 (commands_left c x)) (is_some (outcome c (handed_count c x.steps) x)) (ap is_some none)
]
  where
    and_false : (a b : Bool) → b ≡ false → (a && b) ≡ false
    and_false true b e = e
    and_false false b e = refl

refused_by : (is_open ready : Bool) (unwritten n : ℕ)
    → (if not is_open then Some refusal.NoSuchConnection else (if not ready then Some (refusal.NotReady n) else None)) ≡ Some (refusal.NotReady unwritten)
    → (is_open ≡ true) × (ready ≡ false) × (unwritten ≡ n)
refused_by true false unwritten n e = (refl, refl, cc)
refused_by true true unwritten n e = absurd cc
refused_by false ready unwritten n e = absurd cc

pub not_ready_means : (S : Setting) (x : Past) (c unwritten : ℕ)
    → (own_cause S x (Handed c) ≡ Some (refusal.NotReady unwritten)) ↔ HasNothingReady x c unwritten
not_ready_means S x c unwritten = (
  λ e.
      let (opened, unready, unwritten_are) = refused_by (is_open c x.steps) (is_ready c x) unwritten (commands_left c x) e in
      record {
        opened = opened;
        unwritten_are = unwritten_are;
        none_ready = elim (not_ready x c unready) [ inl none ↦ inl (unwritten_are ∙ none) | inr none ↦ inr none ];
      },
  λ a. rw (a.opened, nothing_ready x c unwritten a, a.unwritten_are) refl,
)

pub finishing_takes_nothing : (S : Setting) (x : Past) (c : ℕ) (request : Request)
    → is_open c x.steps ≡ true → is_finishing c x.steps ≡ true
    → own_cause S x (Arrived c request) ≡ Some refusal.Finishing
finishing_takes_nothing S x c request o f = rw (o, f) refl
