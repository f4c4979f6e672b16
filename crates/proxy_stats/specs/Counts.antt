-- The counts of a journal, as a function of its steps.
use Rattle.std.specs.Prelude.{◌≡◌, ℕ, ◌<◌, ◌^◌, All, List, length, map, sum_by}
use Rattle.std.specs.List.{range_with_len}
use Rattle.proxy_history.specs.History.{Step}
use Rattle.proxy_stats.specs.declared.tally.Counts.{Counts}
use Rattle.proxy_stats.specs.declared.tally.HostCounts.{HostCounts}
use Rattle.proxy_stats.specs.Amounts.{arrivals, handings, takings, replies, failures, lost_parts, ejected_hosts, kept_hosts, hostless_parts, busy_parts, own_answers, of_host}
use Rattle.proxy_stats.specs.Sums.{AreCapped, AreGrown}

-- the counts of host h over the steps
abbrev pub host_counts_of : List Step → ℕ → HostCounts
host_counts_of steps h = record {
  sent = sum_by (of_host h takings) steps;
  answered = sum_by (of_host h replies) steps;
  faults = sum_by (of_host h failures) steps;
  lost = sum_by (of_host h lost_parts) steps;
}

-- the counts that are the sums over the steps
abbrev pub counts_of : List Step → Counts
counts_of steps = record {
  accepted = sum_by arrivals steps;
  handed = sum_by handings steps;
  sent = sum_by takings steps;
  answered = sum_by replies steps;
  lost = sum_by lost_parts steps;
  ejections = sum_by ejected_hosts steps;
  kept = sum_by kept_hosts steps;
  no_host = sum_by hostless_parts steps;
  busy = sum_by busy_parts steps;
  local = map (λ place. sum_by (own_answers place) steps) (range_with_len 0 7);
  hosts = map (host_counts_of steps) (range_with_len 0 64);
}

-- a step tells of few hosts put aside, and of few that tripped and stayed
abbrev pub TellsFewHosts : Step → Type 0
TellsFewHosts s = (ejected_hosts s < 2 ^ 32) × (kept_hosts s < 2 ^ 32)

-- The counts are those of the steps, as far as a count goes, and there are as many as there are kinds and hosts.
pub record AreKept (steps : List Step) (c : Counts) : Type 0 where
  pub counts : AreCapped steps c
  pub few : All TellsFewHosts steps
  pub kinds : length c.local ≡ 7
  pub hosts : length c.hosts ≡ 64

-- the counts with the last of these steps
pub record HasCounted (old : Counts) (step : Step) (new : Counts) : Type 0 where
  pub grown : AreGrown old step new
  pub few : TellsFewHosts step
  pub kinds : length new.local ≡ length old.local
  pub hosts : length new.hosts ≡ length old.hosts
