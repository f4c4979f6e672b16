-- Counts as one step more comes, and why no sum is capped.
use Rattle.std.proofs.Common.{◌≡◌, ℕ, ◌+◌, ◌^◌, ◌<◌, ◌≤◌, List, [], ◌∷◌, length, take, get_or, sum_by, All, inl, inr, sym, ap, ◌∙◌, subst, arith}
use Rattle.std.proofs.lemmas.Bool.{cases_Bool}
use Rattle.std.proofs.lemmas.Bool.Decides.{nat_tests}
use Rattle.std.proofs.lemmas.List.{take_more}
use Rattle.std.proofs.lemmas.List.Elements.{All-append, All-cons, All-nil}
use Rattle.std.proofs.lemmas.List.Sums.{sum_by_more, sum_by-le}
use Rattle.proxy_history.specs.History.{Step}
use Rattle.proxy_history.specs.declared.event.Event.{Event}
use Rattle.proxy_history.specs.declared.event.Event.TheVariants.{Opened, Arrived, Finished, Taken, Answered, Failed, Swept, Handed, Closed}
use Rattle.proxy_history.specs.declared.answer.Answer.{Answer}
use Rattle.proxy_history.specs.declared.answer.Answer.TheVariants as answers
use Rattle.proxy_stats.specs.declared.tally.Counts.{Counts}
use Rattle.proxy_stats.specs.declared.tally.HostCounts.{HostCounts}
use Rattle.proxy_stats.specs.Amounts.{arrivals, handings, takings, replies, failures, lost_parts, ejected_hosts, kept_hosts, hostless_parts, busy_parts, own_answers, of_host, arrivals_in, handings_in, takings_in, replies_in, failures_in, local_in, is_local, is_event_of}
use Rattle.proxy_stats.specs.Sums.{capped_sum, grown_sum, AreHostCountsBy, AreCounts, AreCapped, AreGrown, AreHostsGrown}
use Rattle.proxy_stats.proofs.SmallStepLemmas.{IsSmall}

-- ---- one step more

capped_grown : (total x more y : ℕ) → x ≡ capped_sum total → y ≡ grown_sum x more → y ≡ capped_sum (total + more)
capped_grown total x more y is new = grind (arith, nat_tests)

one_more : (f : Step → ℕ) (steps : List Step) (i : ℕ) (step : Step) (x y : ℕ) → i < length steps → get_or steps i step ≡ step → x ≡ capped_sum (sum_by f (take i steps)) → y ≡ grown_sum x (f step) → y ≡ capped_sum (sum_by f (take (i + 1) steps))
one_more f steps i step x y within at is new =
    capped_grown (sum_by f (take i steps)) x (f step) y is new ∙ ap capped_sum (sym (sum_by_more f steps i step within ∙ ap (λ s. sum_by f (take i steps) + f s) at))

host_more : (steps : List Step) (i : ℕ) (step : Step) (h : ℕ) (c d : HostCounts) → i < length steps → get_or steps i step ≡ step → AreHostCountsBy capped_sum (take i steps) h c → AreHostsGrown c h step d → AreHostCountsBy capped_sum (take (i + 1) steps) h d
host_more steps i step h c d within at is new = record {
  sent = one_more (of_host h takings) steps i step c.sent d.sent within at is.sent new.sent;
  answered = one_more (of_host h replies) steps i step c.answered d.answered within at is.answered new.answered;
  faults = one_more (of_host h failures) steps i step c.faults d.faults within at is.faults new.faults;
  lost = one_more (of_host h lost_parts) steps i step c.lost d.lost within at is.lost new.lost;
}

pub counts_more : (steps : List Step) (i : ℕ) (step : Step) (c d : Counts) → i < length steps → get_or steps i step ≡ step → AreCapped (take i steps) c → AreGrown c step d → AreCapped (take (i + 1) steps) d
counts_more steps i step c d within at is new = record {
  accepted = one_more arrivals steps i step c.accepted d.accepted within at is.accepted new.accepted;
  handed = one_more handings steps i step c.handed d.handed within at is.handed new.handed;
  sent = one_more takings steps i step c.sent d.sent within at is.sent new.sent;
  answered = one_more replies steps i step c.answered d.answered within at is.answered new.answered;
  lost = one_more lost_parts steps i step c.lost d.lost within at is.lost new.lost;
  ejections = one_more ejected_hosts steps i step c.ejections d.ejections within at is.ejections new.ejections;
  kept = one_more kept_hosts steps i step c.kept d.kept within at is.kept new.kept;
  no_host = one_more hostless_parts steps i step c.no_host d.no_host within at is.no_host new.no_host;
  busy = one_more busy_parts steps i step c.busy d.busy within at is.busy new.busy;
  local = λ place few. one_more (own_answers place) steps i step (get_or c.local place 0) (get_or d.local place 0) within at (is.local place few) (new.local place few);
  hosts = λ h e few. host_more steps i step h (get_or c.hosts h e) (get_or d.hosts h e) within at (is.hosts h e few) (new.hosts h e few);
}

-- ---- no sum is capped

-- at most 2^32 of a count in a step
abbrev Few : (Step → ℕ) → List Step → Type 0
Few f steps = All (λ s. f s ≤ 4294967296) steps

uncapped : (f : Step → ℕ) (steps : List Step) (x : ℕ) → length steps ≤ 262144 → Few f steps → x ≡ capped_sum (sum_by f steps) → x ≡ sum_by f steps
uncapped f steps x few each is =
    let most = sum_by-le f 4294967296 steps each in
    grind (arith, nat_tests)

few_events : (e : Event) → (arrivals_in e ≤ 1) × (handings_in e ≤ 1) × (takings_in e ≤ 1) × (replies_in e ≤ 1) × (failures_in e ≤ 1)
few_events Opened = (omega arith, omega arith, omega arith, omega arith, omega arith)
few_events (Arrived conn request) = (omega arith, omega arith, omega arith, omega arith, omega arith)
few_events (Finished conn) = (omega arith, omega arith, omega arith, omega arith, omega arith)
few_events (Taken host) = (omega arith, omega arith, omega arith, omega arith, omega arith)
few_events (Answered host epoch value t) = (omega arith, omega arith, omega arith, omega arith, omega arith)
few_events (Failed host epoch kind t) = (omega arith, omega arith, omega arith, omega arith, omega arith)
few_events (Swept t) = (omega arith, omega arith, omega arith, omega arith, omega arith)
few_events (Handed conn) = (omega arith, omega arith, omega arith, omega arith, omega arith)
few_events (Closed conn) = (omega arith, omega arith, omega arith, omega arith, omega arith)

few_local : (place : ℕ) (a : Answer) → local_in place a ≤ 1
few_local place (answers.Opened conn) = omega arith
few_local place (answers.Accepted index local parts no_host busy) = elim (cases_Bool (is_local place local)) [ inl on ↦ rw on (omega arith) | inr off ↦ rw off (omega arith) ]
few_local place answers.Finishing = omega arith
few_local place (answers.Sent epoch at text) = omega arith
few_local place (answers.Matched trip) = omega arith
few_local place (answers.Lost parts trip) = omega arith
few_local place (answers.Swept returned ejected kept) = omega arith
few_local place (answers.Bytes text) = omega arith
few_local place answers.Closed = omega arith

few_of_host : (h : ℕ) (f : Step → ℕ) (s : Step) → of_host h f s ≤ f s
few_of_host h f s = elim (cases_Bool (is_event_of h s.event)) [ inl on ↦ rw on (omega arith) | inr off ↦ rw off (omega arith) ]

host_few : (h : ℕ) (f : Step → ℕ) (steps : List Step) → Few f steps → Few (of_host h f) steps
host_few h f steps few k d within = let at_most = few_of_host h f (get_or steps k d) in let here = few k d within in omega (arith, at_most, here)

pub counts_uncapped : (steps : List Step) (c : Counts) → length steps ≤ 262144 → All IsSmall steps → All (λ s. (ejected_hosts s < 2 ^ 32) × (kept_hosts s < 2 ^ 32)) steps → AreCapped steps c → AreCounts steps c
counts_uncapped steps c many small swept is =
    let arrive : Few arrivals steps = λ k d w. let e = few_events (get_or steps k d).event in omega (arith, e.0) in
    let hand : Few handings steps = λ k d w. let e = few_events (get_or steps k d).event in omega (arith, e.1) in
    let take_parts : Few takings steps = λ k d w. let (_, _, takes, _, _) = few_events (get_or steps k d).event in omega (arith, takes) in
    let reply : Few replies steps = λ k d w. let (_, _, _, replied, _) = few_events (get_or steps k d).event in omega (arith, replied) in
    let fail : Few failures steps = λ k d w. let (_, _, _, _, fails) = few_events (get_or steps k d).event in omega (arith, fails) in
    let lose : Few lost_parts steps = λ k d w. (small k d w).0 in
    let hostless : Few hostless_parts steps = λ k d w. (small k d w).1 in
    let busy : Few busy_parts steps = λ k d w. let (_, _, busy) = small k d w in busy in
    let eject : Few ejected_hosts steps = λ k d w. let s = (swept k d w).0 in omega (arith, s) in
    let keep : Few kept_hosts steps = λ k d w. let s = (swept k d w).1 in omega (arith, s) in
    record {
      accepted = uncapped arrivals steps c.accepted many arrive is.accepted;
      handed = uncapped handings steps c.handed many hand is.handed;
      sent = uncapped takings steps c.sent many take_parts is.sent;
      answered = uncapped replies steps c.answered many reply is.answered;
      lost = uncapped lost_parts steps c.lost many lose is.lost;
      ejections = uncapped ejected_hosts steps c.ejections many eject is.ejections;
      kept = uncapped kept_hosts steps c.kept many keep is.kept;
      no_host = uncapped hostless_parts steps c.no_host many hostless is.no_host;
      busy = uncapped busy_parts steps c.busy many busy is.busy;
      local = λ place few. uncapped (own_answers place) steps (get_or c.local place 0) many (λ k d w. let s = few_local place (get_or steps k d).answer in omega (arith, s)) (is.local place few);
      hosts = λ h e few. let here = is.hosts h e few in record {
        sent = uncapped (of_host h takings) steps (get_or c.hosts h e).sent many (host_few h takings steps take_parts) here.sent;
        answered = uncapped (of_host h replies) steps (get_or c.hosts h e).answered many (host_few h replies steps reply) here.answered;
        faults = uncapped (of_host h failures) steps (get_or c.hosts h e).faults many (host_few h failures steps fail) here.faults;
        lost = uncapped (of_host h lost_parts) steps (get_or c.hosts h e).lost many (host_few h lost_parts steps lose) here.lost;
      };
    }

-- ---- the steps so far

pub all_more : (P : Step → Type 0) (steps : List Step) (i : ℕ) (step : Step) → i < length steps → get_or steps i step ≡ step → All P (take i steps) → P step → All P (take (i + 1) steps)
all_more P steps i step within at all here =
    rw (take_more steps i step within) (All-append P (take i steps) (get_or steps i step ∷ []) all (All-cons P _ [] (subst P (sym at) here) (All-nil P)))
