-- The connections where a host answers.
use Rattle.std.proofs.Common.{◌≡◌, ℕ, List, [], ◌∷◌, map, None, Contains, refl, sym, ap, ◌∙◌, subst, inl, inr}
use Rattle.std.proofs.lemmas.Bool.{cases_Bool}
use Rattle.list_lemmas.proofs.CallerLemmas.{Contains-nil, map-range_same, Contains-first, Contains-cases}
use Rattle.resp_core.specs.Value.{tree_of}
use Rattle.resp_core.specs.declared.value.Value.{Value}
use Rattle.upstream_pipe.specs.declared.part.Owner.{Owner}
use Rattle.proxy_history.specs.Setting.{Setting}
use Rattle.proxy_history.specs.History.{History, openings, is_closed}
use Rattle.proxy_history.specs.Part.{Past, Part}
use Rattle.proxy_history.specs.Past.{past}
use Rattle.proxy_history.specs.Value.{value_of}
use Rattle.proxy_history.specs.Cause.{own_cause}
use Rattle.proxy_history.specs.Legal.{IsLegal}
use Rattle.proxy_history.specs.declared.answer.Answer.{Answer}
use Rattle.proxy_history.specs.declared.event.Event.TheVariants.{Answered}
use Rattle.proxy_history.proofs.CallerLemmas.{AreApart-sent as none_twice}
use Rattle.proxy_core.specs.Connections.{connections_of, answered_parts, AreAwaited}
use Rattle.proxy_core.specs.Pipelines.{pipeline_of, place_of, owner_of_part, next_owner}
use Rattle.proxy_core.proofs.parts.UnansweredParts.{in_flight, flight_is_unanswered, flight_arrived, unanswered_has_none, oldest_flies, values_answered}
use Rattle.proxy_core.proofs.parts.PartValues.{connections-valued}
use Rattle.proxy_core.proofs.parts.OpenParts.{HaveNone, open_parts, come-awaited, come-connections, nothing-new}

-- the owner of the oldest that flies, if its connection is open
next_is : (x : Past) (p : Part) (rest : List Part) → next_owner (map (place_of x) (p ∷ rest)) ≡ map owner_of_part (open_parts x.steps (p ∷ []))
next_is x p rest = elim (cases_Bool (is_closed p.conn x.steps)) [ inl y ↦ rw y refl | inr n ↦ rw n refl ]

module _ (S : Setting) (H : History) (host e t : ℕ) (value : Value) (legal : IsLegal S H) (none : own_cause S (past S H) (Answered host e value t) ≡ None) where
  oldest : (p : Part) × (rest : List Part) × (in_flight host (past S H) ≡ p ∷ rest)
  oldest = oldest_flies S H host e t value none

  flight_is : in_flight host (past S H) ≡ oldest.0 ∷ oldest.1
  flight_is = let (_, _, is) = oldest in is

  flies : (p : Part) → Contains (oldest.0 ∷ []) p → Contains (in_flight host (past S H)) p
  flies p i = elim (Contains-cases oldest.0 [] p i) [
    | inl one ↦ subst (λ (z : Part). Contains (in_flight host (past S H)) z) one (subst (λ (z : List Part). Contains z oldest.0) (sym flight_is) (Contains-first oldest.0 oldest.1))
    | inr more ↦ absurd (Contains-nil p more)
  ]

  none_yet : HaveNone S H (oldest.0 ∷ [])
  none_yet = record {
    apart = (refl, tt);
    arrived = λ p i. flight_arrived S H host p (flies p i);
    none = λ p i. unanswered_has_none (past S H) host p (flight_is_unanswered host (past S H) p (none_twice S H) (flies p i));
  }

  next_owner_is : next_owner (pipeline_of (past S H) host).flying ≡ map owner_of_part (open_parts H (oldest.0 ∷ []))
  next_owner_is = ap (λ (z : List Part). next_owner (map (place_of (past S H)) z)) flight_is ∙ next_is (past S H) oldest.0 oldest.1

  -- the part that is answered has no value yet
  pub answered-awaited : AreAwaited (next_owner (pipeline_of (past S H) host).flying) (tree_of value) (connections_of (past S H))
  answered-awaited =
      subst (λ (z : List Owner). AreAwaited z (tree_of value) (connections_of (past S H))) (sym next_owner_is)
      (come-awaited S H (oldest.0 ∷ []) (tree_of value) legal none_yet)

-- and it gets the value
pub connections-answered : (S : Setting) (H : History) (pass host e t : ℕ) (value : Value) (answer : Answer) → IsLegal S H → own_cause S (past S H) (Answered host e value t) ≡ None
    → connections_of (past S (record { pass = pass; event = Answered host e value t; answer = answer } ∷ H))
    ≡ answered_parts (next_owner (pipeline_of (past S H) host).flying) (tree_of value) (connections_of (past S H))
connections-answered S H pass host e t value answer legal none =
    let x' = past S (record { pass = pass; event = Answered host e value t; answer = answer } ∷ H) in
    let o = oldest S H host e t value legal none in
    come-connections S H (record { pass = pass; event = Answered host e value t; answer = answer }) (o.0 ∷ []) (tree_of value) legal (none_yet S H host e t value legal none)
    (connections-valued x' ∙ map-range_same _ _ 0 (openings H) (λ c l m. nothing-new (value_of x') (past S H).parts H c))
    (λ q i o'. values_answered S H pass host e t value answer none o.0 o.1 (flight_is S H host e t value legal none) q i)
    ∙ ap (λ (z : List Owner). answered_parts z (tree_of value) (connections_of (past S H))) (sym (next_owner_is S H host e t value legal none))
