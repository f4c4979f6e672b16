-- Counts as sums over the steps of a journal.
use Rattle.std.specs.Prelude.{◌≡◌, ℕ, ◌+◌, ◌-◌, ◌^◌, ◌<◌, ◌==◌, min, if◌then◌else◌, List, sum_by, slice_index, slice_index_or}
use Rattle.ejector.specs.declared.answer.Trip.{Trip}
use Rattle.proxy_history.specs.History.{Step}
use Rattle.proxy_history.specs.declared.event.Event.{Event}
use Rattle.proxy_history.specs.declared.answer.Answer.{Answer}
use Rattle.proxy_stats.specs.declared.tally.Counts.{Counts}
use Rattle.proxy_stats.specs.declared.tally.HostCounts.{HostCounts}
use Rattle.proxy_stats.specs.Amounts.{arrivals, handings, takings, replies, failures, lost_parts, ejected_hosts, kept_hosts, hostless_parts, busy_parts, own_answers, of_host, arrivals_in, handings_in, takings_in, replies_in, failures_in, is_event_of, lost_in, ejected_by, kept_by, ejected_in, kept_in, hostless_in, busy_in}

-- the counts of host h, each the sum over the steps, as `told` tells it
pub record AreHostCountsBy (told : ℕ → ℕ) (steps : List Step) (h : ℕ) (c : HostCounts) : Type 0 where
  pub sent : c.sent ≡ told (sum_by (of_host h takings) steps)
  pub answered : c.answered ≡ told (sum_by (of_host h replies) steps)
  pub faults : c.faults ≡ told (sum_by (of_host h failures) steps)
  pub lost : c.lost ≡ told (sum_by (of_host h lost_parts) steps)

-- the counts, each the sum over the steps, as `told` tells it
pub record AreCountsBy (told : ℕ → ℕ) (steps : List Step) (c : Counts) : Type 0 where
  pub accepted : c.accepted ≡ told (sum_by arrivals steps)
  pub handed : c.handed ≡ told (sum_by handings steps)
  pub sent : c.sent ≡ told (sum_by takings steps)
  pub answered : c.answered ≡ told (sum_by replies steps)
  pub lost : c.lost ≡ told (sum_by lost_parts steps)
  pub ejections : c.ejections ≡ told (sum_by ejected_hosts steps)
  pub kept : c.kept ≡ told (sum_by kept_hosts steps)
  pub no_host : c.no_host ≡ told (sum_by hostless_parts steps)
  pub busy : c.busy ≡ told (sum_by busy_parts steps)
  pub local : (place : ℕ) → place < 7 → slice_index c.local place ≡ told (sum_by (own_answers place) steps)
  pub hosts : (h : ℕ) (d : HostCounts) → h < 64 → AreHostCountsBy told steps h (slice_index_or c.hosts h d)

-- each count is the sum over the steps
abbrev pub AreCounts : List Step → Counts → Type 0
AreCounts = AreCountsBy (λ n. n)

-- the number, or the greatest `u64` where it is more
abbrev pub capped_sum : ℕ → ℕ
capped_sum n = min n (2 ^ 64 - 1)

-- the counts of two together
pub record AreHostsJoined (a b c : HostCounts) : Type 0 where
  pub sent : c.sent ≡ capped_sum (a.sent + b.sent)
  pub answered : c.answered ≡ capped_sum (a.answered + b.answered)
  pub faults : c.faults ≡ capped_sum (a.faults + b.faults)
  pub lost : c.lost ≡ capped_sum (a.lost + b.lost)

-- each number is the sum of two, or the greatest `u64` where that is more
pub record AreJoined (a b c : Counts) : Type 0 where
  pub accepted : c.accepted ≡ capped_sum (a.accepted + b.accepted)
  pub handed : c.handed ≡ capped_sum (a.handed + b.handed)
  pub sent : c.sent ≡ capped_sum (a.sent + b.sent)
  pub answered : c.answered ≡ capped_sum (a.answered + b.answered)
  pub lost : c.lost ≡ capped_sum (a.lost + b.lost)
  pub ejections : c.ejections ≡ capped_sum (a.ejections + b.ejections)
  pub kept : c.kept ≡ capped_sum (a.kept + b.kept)
  pub no_host : c.no_host ≡ capped_sum (a.no_host + b.no_host)
  pub busy : c.busy ≡ capped_sum (a.busy + b.busy)
  pub local : (i : ℕ) → i < 7 → slice_index c.local i ≡ capped_sum (slice_index a.local i + slice_index b.local i)
  pub hosts : (h : ℕ) (d : HostCounts) → h < 64 → AreHostsJoined (slice_index_or a.hosts h d) (slice_index_or b.hosts h d) (slice_index_or c.hosts h d)

-- ---- one step more

-- each count is the sum over the steps, or the greatest `u64`
abbrev pub AreCapped : List Step → Counts → Type 0
AreCapped = AreCountsBy capped_sum

-- a count that stands in a list goes up by so much, as far as it can
abbrev pub grown_sum : ℕ → ℕ → ℕ
grown_sum n more = if more == 0 then n else capped_sum (n + more)

-- a host's numbers with those of one step
pub record AreHostsGrown (old : HostCounts) (h : ℕ) (step : Step) (new : HostCounts) : Type 0 where
  pub sent : new.sent ≡ grown_sum old.sent (of_host h takings step)
  pub answered : new.answered ≡ grown_sum old.answered (of_host h replies step)
  pub faults : new.faults ≡ grown_sum old.faults (of_host h failures step)
  pub lost : new.lost ≡ grown_sum old.lost (of_host h lost_parts step)

-- a host's numbers with so many more of each
pub record AreHostsGrownBy (old : HostCounts) (more_sent more_answered more_faults more_lost : ℕ) (new : HostCounts) : Type 0 where
  pub sent : new.sent ≡ grown_sum old.sent more_sent
  pub answered : new.answered ≡ grown_sum old.answered more_answered
  pub faults : new.faults ≡ grown_sum old.faults more_faults
  pub lost : new.lost ≡ grown_sum old.lost more_lost

-- a host's numbers with those of one event
abbrev pub AreHostsGrownByEvent : HostCounts → ℕ → Event → HostCounts → Type 0
AreHostsGrownByEvent old h e new =
    AreHostsGrownBy old (if is_event_of h e then takings_in e else 0) (if is_event_of h e then replies_in e else 0) (if is_event_of h e then failures_in e else 0) 0 new

-- the counts with one step more
pub record AreGrown (old : Counts) (step : Step) (new : Counts) : Type 0 where
  pub accepted : new.accepted ≡ grown_sum old.accepted (arrivals step)
  pub handed : new.handed ≡ grown_sum old.handed (handings step)
  pub sent : new.sent ≡ grown_sum old.sent (takings step)
  pub answered : new.answered ≡ grown_sum old.answered (replies step)
  pub lost : new.lost ≡ grown_sum old.lost (lost_parts step)
  pub ejections : new.ejections ≡ grown_sum old.ejections (ejected_hosts step)
  pub kept : new.kept ≡ grown_sum old.kept (kept_hosts step)
  pub no_host : new.no_host ≡ grown_sum old.no_host (hostless_parts step)
  pub busy : new.busy ≡ grown_sum old.busy (busy_parts step)
  pub local : (place : ℕ) → place < 7 → slice_index new.local place ≡ grown_sum (slice_index old.local place) (own_answers place step)
  pub hosts : (h : ℕ) (d : HostCounts) → h < 64 → AreHostsGrown (slice_index_or old.hosts h d) h step (slice_index_or new.hosts h d)

-- what is counted by an event
abbrev pub with_event : Counts → Event → Counts
with_event c e = record c {
  accepted = grown_sum c.accepted (arrivals_in e);
  handed = grown_sum c.handed (handings_in e);
  sent = grown_sum c.sent (takings_in e);
  answered = grown_sum c.answered (replies_in e);
}

-- whether a host was put aside, or tripped and stayed
abbrev pub with_trip : Counts → Trip → Counts
with_trip c trip = record c {
  ejections = grown_sum c.ejections (ejected_by trip);
  kept = grown_sum c.kept (kept_by trip);
}

-- what is counted by an answer, but for answers of the proxy's own
abbrev pub with_answer : Counts → Answer → Counts
with_answer c a = record c {
  lost = grown_sum c.lost (lost_in a);
  ejections = grown_sum c.ejections (ejected_in a);
  kept = grown_sum c.kept (kept_in a);
  no_host = grown_sum c.no_host (hostless_in a);
  busy = grown_sum c.busy (busy_in a);
}
