-- Steps of one place, and others beside them; and the hosts of a place, one host more at a time.
use Rattle.std.proofs.Common.{◌≡◌, ◌==◌, ◌∙◌, ◌+◌, ◌%◌, ◌++◌, ℕ, [], ◌∷◌, if◌then◌else◌, filter, ap, append-nil, refl, sym, inl, inr, arith}
use Rattle.std.specs.List.{range_with_len}
use Rattle.std.proofs.lemmas.Bool.{eq-eqb}
use Rattle.std.proofs.lemmas.Bool.Decides.{eqb_tells}
use Rattle.std.proofs.lemmas.List.{map-id}
use Rattle.std.proofs.lemmas.List.Elements.{filter-append}
use Rattle.std.proofs.lemmas.List.FromFn.{filter_of_map_range_with_len_more}
use Rattle.proxy_history.specs.History.{History, Step}
use Rattle.proxy_history.specs.OwnSteps.{connection_steps, host_steps, is_of_host}
use Rattle.proxy_engines.proofs.CallerLemmas as engines
use Rattle.proxy_notices.specs.Places.{IsOf, hosts_of, worker_of}
use Rattle.proxy_notices.specs.declared.place.Place.{Place}
use Rattle.proxy_connections.specs.Places.{KeepsToPlace}

-- steps of no host of another place, and others of the same kind
pub keeps_beside : (place : Place) (H later : History) → KeepsToPlace place later → KeepsToPlace place H → KeepsToPlace place (later ++ H)
keeps_beside place H later first keeps h other =
    filter-append (λ (s : Step). is_of_host h s.event) later H ∙ rw (first h other, keeps h other) refl

-- a connection's steps are of no host
pub keeps_of_connection : (place : Place) (c : ℕ) (H later : History) → connection_steps c later ≡ later → KeepsToPlace place H
    → KeepsToPlace place (later ++ H)
keeps_of_connection place c H later alone keeps =
    keeps_beside place H later (λ h other. (engines.clients_leave_others c later alone).1 h) keeps

-- a host's steps are of no other host
pub keeps_of_host : (place : Place) (g : ℕ) (H later : History) → host_steps g later ≡ later → IsOf place g → KeepsToPlace place H
    → KeepsToPlace place (later ++ H)
keeps_of_host place g H later alone is_own keeps =
    keeps_beside place H later
    (λ h other. (engines.hosts_leave_others g later alone).0 h (λ same. other (ap (λ n. n % place.workers) same ∙ is_own))) keeps

-- A PLACE'S HOSTS

-- one host more
hosts_of-more : (place : Place) (hosts : ℕ) → hosts_of place (hosts + 1)
    ≡ hosts_of place hosts ++ (if worker_of hosts place.workers == place.index then hosts ∷ [] else [])
hosts_of-more place hosts =
    let e : 0 + hosts ≡ hosts = omega arith in
    let is_of = λ (h : ℕ). worker_of h place.workers == place.index in
    ap (filter is_of) (sym (map-id (range_with_len 0 (hosts + 1))))
    ∙ filter_of_map_range_with_len_more is_of (λ h. h) 0 hosts hosts e
    ∙ ap (λ hs. filter is_of hs ++ (if is_of hosts then hosts ∷ [] else [])) (map-id (range_with_len 0 hosts))

-- one host more, that is another worker's
pub hosts_of-skip : (place : Place) (hosts : ℕ) → (IsOf place hosts → ⊥) → hosts_of place hosts ≡ hosts_of place (hosts + 1)
hosts_of-skip place hosts other = elim (eqb_tells (worker_of hosts place.workers) place.index) [
  | inl same ↦ absurd (other same.1)
  | inr differs ↦ sym (hosts_of-more place hosts
      ∙ ap (λ b. hosts_of place hosts ++ (if b then hosts ∷ [] else [])) differs.0
      ∙ append-nil (hosts_of place hosts))
]

-- one host more, that is the worker's
pub hosts_of-take : (place : Place) (hosts : ℕ) → IsOf place hosts → hosts_of place hosts ++ hosts ∷ [] ≡ hosts_of place (hosts + 1)
hosts_of-take place hosts is_own = sym (hosts_of-more place hosts
    ∙ ap (λ b. hosts_of place hosts ++ (if b then hosts ∷ [] else [])) (eq-eqb (worker_of hosts place.workers) place.index is_own))
