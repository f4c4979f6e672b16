-- The connections where a host fails.
use Rattle.std.proofs.Common.{◌≡◌, ℕ, false, List, [], ◌∷◌, ◌++◌, map, Contains, refl, sym, ap, ◌∙◌, subst}
use Rattle.std.proofs.lemmas.List.{map-append}
use Rattle.std.proofs.lemmas.List.Elements.{filter-append}
use Rattle.list_lemmas.proofs.CallerLemmas.{map-range_same, filter-passes, Contains-first, Contains-later}
use Rattle.upstream_pipe.specs.declared.part.Owner.{Owner}
use Rattle.upstream_pipe.specs.Pipe.{owner_in}
use Rattle.proxy_history.specs.Setting.{Setting}
use Rattle.proxy_history.specs.History.{History, openings, is_closed}
use Rattle.proxy_history.specs.Part.{Past, Part}
use Rattle.proxy_history.specs.Past.{past}
use Rattle.proxy_history.specs.Waiting.{waiting_parts, waits}
use Rattle.proxy_history.specs.Value.{value_of, upstream_failure}
use Rattle.proxy_history.specs.Legal.{IsLegal}
use Rattle.proxy_history.specs.declared.answer.Answer.{Answer}
use Rattle.proxy_history.specs.declared.event.Kind.{Kind}
use Rattle.proxy_history.specs.declared.event.Event.TheVariants.{Failed}
use Rattle.proxy_history.proofs.CallerLemmas.{AreApart-sent as none_twice, waits-true as waits_parts, AreInOrder-parts as parts_are_in_order}
use Rattle.proxy_core.specs.Connections.{connections_of, answered_parts, AreAwaited}
use Rattle.proxy_core.specs.Pipelines.{pipeline_of, pipe_part, owner_of_part, lost_owners}
use Rattle.proxy_core.proofs.parts.UnansweredParts.{in_flight, at_host, at_host_is_unanswered, at_host_arrived, at_host_apart, unanswered_has_none, values_failed}
use Rattle.proxy_core.proofs.parts.PartValues.{connections-valued}
use Rattle.proxy_core.proofs.parts.OpenParts.{HaveNone, has_open, open_parts, open_owners, come-awaited, come-connections, nothing-new}

-- the owners of parts that wait
waiting_owners : (ps : List Part) → map owner_in (map pipe_part ps) ≡ map owner_of_part ps
waiting_owners [] = refl
waiting_owners (p ∷ ps) = ap (λ z. owner_of_part p ∷ z) (waiting_owners ps)

all_open : (H : History) (ps : List Part) → ((p : Part) → Contains ps p → is_closed p.conn H ≡ false) → open_parts H ps ≡ ps
all_open H [] f = refl
all_open H (p ∷ ps) f = rw (f p (Contains-first p ps)) (ap (λ z. p ∷ z) (all_open H ps (λ q h. f q (Contains-later p ps q h))))

waiting_are_open : (h : ℕ) (x : Past) → open_parts x.steps (waiting_parts h x) ≡ waiting_parts h x
waiting_are_open h x = all_open x.steps (waiting_parts h x) (λ p i. let (_, _, is_open) = waits_parts h x p (filter-passes (waits h x) x.parts p i) in is_open)

-- those that a fault loses: the owners of what flew and of what waited, of open connections
lost_is : (x : Past) (h : ℕ) → lost_owners (pipeline_of x h) ≡ map owner_of_part (open_parts x.steps (at_host h x))
lost_is x h =
    let flew = open_parts x.steps (in_flight h x) in
    let still : open_parts x.steps (at_host h x) ≡ flew ++ waiting_parts h x =
    filter-append (has_open x.steps) (in_flight h x) (waiting_parts h x) ∙ ap (λ z. flew ++ z) (waiting_are_open h x) in
    ap (λ z. z ++ map owner_in (map pipe_part (waiting_parts h x))) (open_owners x (in_flight h x))
    ∙ ap (λ z. map owner_of_part flew ++ z) (waiting_owners (waiting_parts h x))
    ∙ sym (map-append owner_of_part flew (waiting_parts h x))
    ∙ ap (map owner_of_part) (sym still)

none_yet : (S : Setting) (H : History) (host : ℕ) → HaveNone S H (at_host host (past S H))
none_yet S H host = record {
  apart = at_host_apart host (past S H) (none_twice S H) (parts_are_in_order S H).apart;
  arrived = λ p i. at_host_arrived S H host p i;
  none = λ p i. unanswered_has_none (past S H) host p (at_host_is_unanswered host (past S H) p (none_twice S H) i);
}

-- the parts that are lost have no value yet
pub failed-awaited : (S : Setting) (H : History) (host : ℕ) → IsLegal S H → AreAwaited (lost_owners (pipeline_of (past S H) host)) upstream_failure (connections_of (past S H))
failed-awaited S H host legal =
    subst (λ (z : List Owner). AreAwaited z upstream_failure (connections_of (past S H))) (sym (lost_is (past S H) host))
    (come-awaited S H (at_host host (past S H)) upstream_failure legal (none_yet S H host))

-- and they get the failure
pub connections-failed : (S : Setting) (H : History) (pass host e t : ℕ) (kind : Kind) (answer : Answer) → IsLegal S H
    → connections_of (past S (record { pass = pass; event = Failed host e kind t; answer = answer } ∷ H))
    ≡ answered_parts (lost_owners (pipeline_of (past S H) host)) upstream_failure (connections_of (past S H))
connections-failed S H pass host e t kind answer legal =
    let x' = past S (record { pass = pass; event = Failed host e kind t; answer = answer } ∷ H) in
    come-connections S H (record { pass = pass; event = Failed host e kind t; answer = answer }) (at_host host (past S H)) upstream_failure legal (none_yet S H host)
    (connections-valued x' ∙ map-range_same _ _ 0 (openings H) (λ c l m. nothing-new (value_of x') (past S H).parts H c))
    (λ q i o. values_failed S H pass host e t kind answer q i o)
    ∙ ap (λ (z : List Owner). answered_parts z upstream_failure (connections_of (past S H))) (sym (lost_is (past S H) host))
