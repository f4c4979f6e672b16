-- The parts of a command, placed one after the other.
use Rattle.std.proofs.Common.{◌≡◌, ◌+◌, ◌<◌, ℕ, Bool, List, [], ◌∷◌, ◌++◌, Option, length, map, drop, get_or, refl, sym, ap, ◌∙◌}
use Rattle.std.proofs.lemmas.List.{drop_more, map-append, length-map}
use Rattle.ketama.specs.Owner.{owner_of}
use Rattle.ketama.specs.Key.{point_of}
use Rattle.ejector.specs.declared.settings.Rules.{Rules}
use Rattle.ejector.specs.State.{State, hosts_of}
use Rattle.ejector.specs.Ejection.{state}
use Rattle.ejector.specs.UsableHosts.{is_usable}
use Rattle.splitter.specs.declared.plans.PartPlan.{PartPlan}
use Rattle.proxy_history.specs.Setting.{Setting}
use Rattle.proxy_history.specs.Part.{Past}
use Rattle.proxy_history.specs.Arrival.{usable_flags, parts_placed, placed_part, with_host, hostless}
use Rattle.test_reference.specs.Scan.{part_of, parts_of}
use Rattle.test_reference.specs.declared.part.Part.{Part as Part'}

pub usable-of_state : (S : Setting) (past : Past) (R : Rules) (x : State) → S.rules ≡ R → x ≡ state S.rules S.opening past.marks → usable_flags S past ≡ map (is_usable R x) (hosts_of R)
usable-of_state S past R x e f = rw (f, ← e) refl

-- the part that the code places
pub part_of-placed : (S : Setting) (past : Past) (conn command : ℕ) (placed : List Part') (p : PartPlan) (pairs : List (ℕ × ℕ)) (tags : Bool) (us : List Bool) (host : Option ℕ) (part : Part')
    → S.ring.pairs ≡ pairs → S.rules.settings.tags ≡ tags → usable_flags S past ≡ us → host ≡ owner_of pairs (point_of p.key tags) us
    → part_of part ≡ with_host past (parts_of placed) host (hostless conn command (length placed) p)
    → part_of part ≡ placed_part S past conn command (parts_of placed) p
part_of-placed S past conn command placed p pairs tags us host part ring t u h e =
    let n : length (parts_of placed) ≡ length placed = length-map placed part_of in
    let o : owner_of S.ring.pairs (point_of p.key S.rules.settings.tags) (usable_flags S past) ≡ host = cc in
    e ∙ ap (λ z. with_host past (parts_of placed) z (hostless conn command (length placed) p)) (sym o) ∙ ap (λ z. with_host past (parts_of placed) (owner_of S.ring.pairs (point_of p.key S.rules.settings.tags) (usable_flags S past)) (hostless conn command z p)) (sym n)

pub placing-more : (S : Setting) (past : Past) (conn command : ℕ) (placed : List Part') (part : Part') (list : List PartPlan) (i : ℕ) (d : PartPlan)
    → i < length list → part_of part ≡ placed_part S past conn command (parts_of placed) (get_or list i d)
    → parts_placed S past conn command (parts_of (placed ++ part ∷ [])) (drop (i + 1) list) ≡ parts_placed S past conn command (parts_of placed) (drop i list)
placing-more S past conn command placed part list i d l e =
    ap (λ z. parts_placed S past conn command z (drop (i + 1) list)) (map-append part_of placed (part ∷ []) ∙ ap (λ z. parts_of placed ++ z ∷ []) e)
    ∙ ap (parts_placed S past conn command (parts_of placed)) (sym (drop_more list i d l))
