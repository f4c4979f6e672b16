-- The counts of a core that counts: with one step more, and as the function of its steps.
use Rattle.std.proofs.Common.{◌≡◌, ℕ, ◌+◌, ◌-◌, ◌<◌, ◌≤◌, Some, slice_get, List, [], ◌∷◌, ◌++◌, length, map, take, reverse, replicate, get_or, sum_by, refl, sym, ap, ◌∙◌, subst, arith}
use Rattle.std.specs.List.{range_with_len}
use Rattle.std.proofs.lemmas.List.{length-append, length-reverse, length-replicate, get_or-replicate, ext_get_or}
use Rattle.std.proofs.lemmas.List.Elements.{All-append, All-cons, All-nil}
use Rattle.std.proofs.lemmas.List.FromFn.{length-map-range_with_len, get_or-map-range_with_len}
use Rattle.std.proofs.lemmas.Option.{get_or_from_slice_get}
use Rattle.std.proofs.Math.Seq.{get_or-append_seam, take-append_seam, take-append-add}
use Rattle.proxy_history.specs.History.{Step}
use Rattle.proxy_history.specs.Legal.{IsLegal}
use Rattle.proxy_history.specs.Proxy.{Proxy, history_in}
use Rattle.proxy_stats.specs.declared.tally.Counts.{Counts}
use Rattle.proxy_stats.specs.declared.tally.HostCounts.{HostCounts}
use Rattle.proxy_stats.specs.Amounts.{own_answers}
use Rattle.proxy_stats.specs.Sums.{AreCapped, AreCounts, AreGrown}
use Rattle.proxy_stats.specs.Counts.{AreKept, HasCounted, TellsFewHosts, counts_of, host_counts_of}
use Rattle.proxy_stats.proofs.SumLemmas.{counts_more, counts_uncapped}
use Rattle.proxy_stats.proofs.SmallStepLemmas.{IsSmall, small_history, many_steps}
use Rattle.proxy_stats.proofs.ListWriteLemmas.{all_forwards}

-- a list with one more at its end is counted as its steps and that one
counted_last : (steps : List Step) (step : Step) (c d : Counts) → AreCapped steps c → AreGrown c step d → AreCapped (steps ++ step ∷ []) d
counted_last steps step c d is new =
    let all : List Step = steps ++ step ∷ [] in
    let within : length steps < length all = omega (arith, length-append steps (step ∷ [])) in
    let before : AreCapped (take (length steps) all) c = rw (take-append_seam steps (step ∷ [])) is in
    let after : AreCapped (take (length steps + 1) all) d = counts_more all (length steps) step c d within (get_or-append_seam steps step [] step) before new in
    subst (λ (l : List Step). AreCapped l d) (take-append-add steps (step ∷ []) 1) after

-- the last of some steps is the one that was added
pub last_is : (all steps : List Step) (step found : Step) (last : ℕ) → all ≡ steps ++ step ∷ [] → last ≡ length all - 1 → slice_get all last ≡ Some found → found ≡ step
last_is all steps step found last same at here =
    let place : last ≡ length steps = omega (arith, at, ap length same, length-append steps (step ∷ [])) in
    sym (get_or_from_slice_get all last found step here)
    ∙ ap (λ l. get_or l last step) same
    ∙ ap (λ k. get_or (steps ++ step ∷ []) k step) place
    ∙ get_or-append_seam steps step [] step

-- and it is there
pub last_within : (all steps : List Step) (step : Step) (last : ℕ) → all ≡ steps ++ step ∷ [] → last ≡ length all - 1 → last < length all
last_within all steps step last same at = omega (arith, at, ap length same, length-append steps (step ∷ []))

-- what is kept of the counts stays so with one step more
pub kept_last : (steps : List Step) (step : Step) (c d : Counts) → AreKept steps c → HasCounted c step d → AreKept (steps ++ step ∷ []) d
kept_last steps step c d kept counted = record {
  counts = counted_last steps step c d kept.counts counted.grown;
  few = All-append TellsFewHosts steps (step ∷ []) kept.few (All-cons TellsFewHosts step [] counted.few (All-nil TellsFewHosts));
  kinds = counted.kinds ∙ kept.kinds;
  hosts = counted.hosts ∙ kept.hosts;
}

abbrev pub nothing : HostCounts
nothing = record { sent = 0; answered = 0; faults = 0; lost = 0 }

-- counts that are the sums are the function of the steps
pub counts_are : (steps : List Step) (c : Counts) → AreCounts steps c → length c.local ≡ 7 → length c.hosts ≡ 64 → c ≡ counts_of steps
counts_are steps c is kinds hosts =
    let kind : ℕ → ℕ = λ place. sum_by (own_answers place) steps in
    let local : c.local ≡ map kind (range_with_len 0 7) =
    ext_get_or 0 c.local (map kind (range_with_len 0 7)) (kinds ∙ sym (length-map-range_with_len kind 0 7)) (λ i within.
    let few : i < 7 = omega (arith, within, kinds) in
    is.local i few ∙ sym (get_or-map-range_with_len kind 0 7 i i 0 few (omega arith))) in
    let host : ℕ → HostCounts = host_counts_of steps in
    let all : c.hosts ≡ map host (range_with_len 0 64) =
    ext_get_or nothing c.hosts (map host (range_with_len 0 64)) (hosts ∙ sym (length-map-range_with_len host 0 64)) (λ h within.
    let few : h < 64 = omega (arith, within, hosts) in
    let here = is.hosts h nothing few in
    let same : get_or c.hosts h nothing ≡ host h = λ i. record { sent = here.sent i; answered = here.answered i; faults = here.faults i; lost = here.lost i } in
    same ∙ sym (get_or-map-range_with_len host 0 64 h h nothing few (omega arith))) in
    λ i. record {
      accepted = is.accepted i;
      handed = is.handed i;
      sent = is.sent i;
      answered = is.answered i;
      lost = is.lost i;
      ejections = is.ejections i;
      kept = is.kept i;
      no_host = is.no_host i;
      busy = is.busy i;
      local = local i;
      hosts = all i;
    }

-- what is kept of the counts of a core are the sums: none is capped
pub kept_sums : (k : Proxy) (c : Counts) → IsLegal k.setting (history_in k) → AreKept k.steps c → AreCounts k.steps c
kept_sums k c legal kept =
    let many : length (reverse k.steps) ≤ 262144 = many_steps k.setting (reverse k.steps) legal in
    counts_uncapped k.steps c (omega (arith, many, length-reverse k.steps)) (all_forwards IsSmall k.steps (small_history k.setting (reverse k.steps) legal)) kept.few kept.counts

-- and the function of the steps
pub kept_value : (k : Proxy) (c : Counts) → IsLegal k.setting (history_in k) → AreKept k.steps c → c ≡ counts_of k.steps
kept_value k c legal kept = counts_are k.steps c (kept_sums k c legal kept) kept.kinds kept.hosts

-- those of no steps
pub kept_at_first : AreKept [] (record {
  accepted = 0;
  handed = 0;
  sent = 0;
  answered = 0;
  lost = 0;
  ejections = 0;
  kept = 0;
  no_host = 0;
  busy = 0;
  local = replicate 7 0;
  hosts = replicate 64 nothing;
})
kept_at_first = record {
  counts = record {
    accepted = refl;
    handed = refl;
    sent = refl;
    answered = refl;
    lost = refl;
    ejections = refl;
    kept = refl;
    no_host = refl;
    busy = refl;
    local = λ place few. get_or-replicate 7 place 0 0 few;
    hosts = λ h d few. rw (get_or-replicate 64 h nothing d few) (record { sent = refl; answered = refl; faults = refl; lost = refl });
  };
  few = All-nil TellsFewHosts;
  kinds = length-replicate {A = ℕ} 7 0;
  hosts = length-replicate 64 nothing;
}
