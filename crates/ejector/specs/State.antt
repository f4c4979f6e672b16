-- The ejection state: the clock, and what is counted of each host.
use Rattle.std.specs.Prelude.{ℕ, Bool, false, List, get_or, max, count_by, replicate}
use Rattle.std.specs.List.{range_with_len}
use Rattle.ejector.specs.declared.host.HostState.{HostState}
use Rattle.ejector.specs.declared.settings.Rules.{Rules}

-- a clock, and how each host stands
pub record State : Type 0 where
  pub clock : ℕ
  pub hosts : List HostState

-- a host of which nothing was told
abbrev pub fresh_host : HostState
fresh_host = record { is_out = false; start = 0; streak = 0; good_results = 0; results = 0; multiplier = 0 }

-- the state of hosts of which nothing was told
abbrev pub fresh_state : Rules → State
fresh_state R = record { clock = 0; hosts = replicate R.hosts fresh_host }

-- the numbers of the hosts
abbrev pub hosts_of : Rules → List ℕ
hosts_of R = range_with_len 0 R.hosts

-- how a host stands
abbrev pub host_of : State → ℕ → HostState
host_of x h = get_or x.hosts h fresh_host

-- whether a host is out
abbrev pub is_out : State → ℕ → Bool
is_out x h = (host_of x h).is_out

-- how many hosts are out
abbrev pub out_count : State → ℕ
out_count x = count_by (λ (s : HostState). s.is_out) x.hosts

-- a moment comes: the clock is the greatest so far
abbrev pub at_moment : ℕ → State → State
at_moment t x = record x { clock = max x.clock t }
