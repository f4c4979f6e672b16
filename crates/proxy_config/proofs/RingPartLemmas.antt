-- What a ring is made from.
use Rattle.std.proofs.Common.{◌≡◌, ◌≢◌, ℕ, ◌<◌, ◌≤◌, List, [], ◌∷◌, length, map, get_or, replicate, Option, Some, None, AllPairs, refl, sym, ◌∙◌, subst, arith}
use Rattle.std.proofs.lemmas.List.{length-replicate, length-map, get_or-map}
use Rattle.std.proofs.lemmas.List.Elements.{All-replicate}
use Rattle.std.proofs.lemmas.Option.{slice_get_read, get_or_from_slice_get}
use Rattle.serde_json.specs.Data.{Data}
use Rattle.ketama.specs.Ketama.{AreWeights, HasSameName}
use Rattle.proxy_config.specs.declared.config.Host.{Host}
use Rattle.proxy_config.specs.RingParts.{AreRingParts}
use Rattle.proxy_config.specs.Table.{AreHosts, AreWeightsOr}
use Rattle.proxy_config.proofs.ElementLemmas.{get_or-within}

ones : (n : ℕ) → AreWeights n (replicate n 1)
ones n = record { each = length-replicate n 1; in_range = All-replicate (λ w. (1 ≤ w) × (w ≤ 100)) n 1 (omega arith, omega arith) }

weights_are : (n : ℕ) (given : Option Data) (weights : List ℕ) → AreWeightsOr n given weights → AreWeights n weights
weights_are n None weights is = subst (AreWeights n) (sym is) (ones n)
weights_are n (Some d) weights is = is.1

-- what the table takes can have a ring
pub ring_parts : (given at_weights : Option Data) (hosts : List Host) (weights : List ℕ) → AreHosts given hosts → AreWeightsOr (length hosts) at_weights weights → AreRingParts hosts weights
ring_parts given at_weights hosts weights are weigh = record { few = are.few; distinct = are.distinct; weighed = weights_are (length hosts) at_weights weights weigh }

-- hosts of different names have no same name
pub no_same_name : (hosts : List Host) → AllPairs (λ a b. a.name ≢ b.name) hosts → ¬ HasSameName (map (λ h. h.name) hosts)
no_same_name [] distinct same = absurd (omega (arith, same.within, same.before))
no_same_name (x ∷ xs) distinct same =
    let hosts = x ∷ xs in
    let f = λ (h : Host). h.name in
    let names = map f hosts in
    let l : length names ≡ length hosts = length-map hosts f in
    let j_in : same.j < length hosts = omega (arith, l, same.within) in
    let name = get_or names same.j x.name in
    let at_j = slice_get_read names (length names) same.j name refl same.within (get_or-within names same.j x.name name same.within) in
    let at_i : get_or names same.i name ≡ name = get_or_from_slice_get names same.i name name (same.same ∙ at_j) in
    let i_in : same.i < length hosts = omega (arith, j_in, same.before) in
    distinct same.i same.j x same.before j_in (sym (get_or-map f hosts same.i x name i_in) ∙ at_i ∙ get_or-map f hosts same.j x x.name j_in)
