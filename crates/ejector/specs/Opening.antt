-- Opening states: what an ejector can have kept from before.
use Rattle.std.specs.Prelude.{◌≡◌, true, ◌-◌, ◌≤◌, All, length}
use Rattle.ejector.specs.declared.host.HostState.{HostState}
use Rattle.ejector.specs.declared.settings.Rules.{Rules}
use Rattle.ejector.specs.CountedState.{max_results, max_multiplier}
use Rattle.ejector.specs.State.{State, out_count}
use Rattle.ejector.specs.Trips.{most_out}

-- What holds of a host's counters at each moment: no more good results than results, and of these no more than count; a
-- streak that hasn't come to a trip, and none while the host is out; and a multiplier within its bound.
pub record IsSound (R : Rules) (s : HostState) : Type 0 where
  pub share : s.good_results ≤ s.results
  pub few_results : s.results ≤ max_results
  pub streak : s.streak ≤ R.settings.consecutive - 1
  pub none_out : s.is_out ≡ true → s.streak ≡ 0
  pub multiplier : s.multiplier ≤ max_multiplier R

-- The state may be handed on to an ejector with these rules: it has their hosts, with sound counters, of which no more are
-- out than the limit allows.
pub record IsOpening (R : Rules) (x : State) : Type 0 where
  pub hosts : length x.hosts ≡ R.hosts
  pub few_out : out_count x ≤ most_out R
  pub sound : All (IsSound R) x.hosts
