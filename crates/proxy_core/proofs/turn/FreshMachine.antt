-- A core to which nothing has happened.
use Rattle.std.proofs.Common.{◌≡◌, ℕ, zero, suc, ◌+◌, List, [], ◌∷◌, ◌++◌, map, replicate, None, refl, sym, ap, ◌∙◌, subst}
use Rattle.std.specs.Prelude.{reverse}
use Rattle.std.specs.List.{range_with_len}
use Rattle.std.proofs.lemmas.List.{map-append, replicate_more}
use Rattle.ejector.specs.Ejection.{state}
use Rattle.ejector.specs.Settings.{first_fault}
use Rattle.ejector.specs.Ejector.{Ejection}
use Rattle.ejector.specs.Opening.{IsOpening}
use Rattle.ejector.proofs.CallerLemmas.{opening_first}
use Rattle.upstream_pipe.specs.Pipe.{PipeState}
use Rattle.proxy_history.specs.Setting.{Setting, hosts}
use Rattle.proxy_history.specs.Past.{past}
use Rattle.proxy_core.specs.Pipelines.{state_of, pipeline_of, pipelines_of, no_pipeline}
use Rattle.proxy_core.specs.Machine.{setting_in, IsKept}
use Rattle.proxy_core.specs.declared.machine.Machine.{Machine}
use Rattle.proxy_core.proofs.turn.IsMadeLemmas.{kept_so, same_fields}

all_fresh : (S : Setting) (a n : ℕ) → map (pipeline_of (past S [])) (range_with_len a n) ≡ replicate n no_pipeline
all_fresh S a zero = refl
all_fresh S a (suc n) = ap (λ z. no_pipeline ∷ z) (all_fresh S (a + 1) n)

pub fresh_kept : (m : Machine) → m.journal.steps ≡ [] → m.journal.bytes ≡ 0 → m.connections.numbered ≡ [] → m.connections.closed ≡ 0
    → m.pipelines.states ≡ replicate m.ring.hosts no_pipeline → m.ejector.rules.hosts ≡ m.ring.hosts → m.opening.value ≡ m.ejector
    → first_fault m.ejector.rules ≡ None → IsOpening m.ejector.rules m.ejector.state → IsKept m
fresh_kept m steps bytes connections closed pipelines same found fault allowed =
    let S = setting_in m in
    let opening : IsOpening S.rules S.opening = subst (λ (e : Ejection). IsOpening S.rules e.state) (sym found) allowed in
    let now : m.ejector.state ≡ state S.rules S.opening [] = ap (λ (e : Ejection). e.state) (sym found) ∙ sym (opening_first S.rules S.opening opening) in
    kept_so m S [] refl (ap reverse steps) tt
    (same_fields m.journal.bytes 0 m.connections.numbered [] m.connections.closed 0 m.pipelines.states (pipelines_of S (past S [])) m.ejector.state (state S.rules S.opening [])
    bytes connections closed (pipelines ∙ ap (λ n. replicate n no_pipeline) (sym same) ∙ sym (all_fresh S 0 (hosts S))) now)
    same fault opening

-- a fresh pipe more
pub fresh_more : (ps : List PipeState) (p : PipeState) (n : ℕ) → map state_of ps ≡ replicate n no_pipeline → state_of p ≡ no_pipeline
    → map state_of (ps ++ p ∷ []) ≡ replicate (n + 1) no_pipeline
fresh_more ps p n e f = map-append state_of ps (p ∷ []) ∙ rw (e, f) (replicate_more n no_pipeline)
