-- How a proxy stands after a history.
use Rattle.std.specs.Prelude.{ℕ, ◌-◌, false, nat_lt, if◌then◌else◌, length, map}
use Rattle.std.specs.List.{range_with_len}
use Rattle.ejector.specs.State.{is_out}
use Rattle.ejector.specs.UsableHosts.{is_panic}
use Rattle.proxy_history.specs.Setting.{Setting, hosts}
use Rattle.proxy_history.specs.History.{History, openings, times, is_any_closing}
use Rattle.proxy_history.specs.Past.{past}
use Rattle.proxy_history.specs.Waiting.{waiting_parts, flying_count}
use Rattle.proxy_core.specs.Recorded.{detection_after}
use Rattle.proxy_stats.specs.declared.load.Load.{Load}
use Rattle.proxy_stats.specs.declared.load.HostLoad.{HostLoad}

-- what is due of a host: the parts that wait for it and fly to it, and whether it is out
abbrev pub host_load_of : Setting → History → ℕ → HostLoad
host_load_of S H h = record {
  waiting = length (waiting_parts h (past S H));
  flying = flying_count h (past S H);
  is_out = is_out (detection_after S H).state h;
}

-- of a host that there isn't nothing is due
abbrev pub no_load : HostLoad
no_load = record { waiting = 0; flying = 0; is_out = false }

-- of any number
abbrev pub load_at : Setting → History → ℕ → HostLoad
load_at S H h = if nat_lt h (hosts S) then host_load_of S H h else no_load

-- the connections that are open, whether all hosts are used since few are available, and what is due of each host
abbrev pub load_of : Setting → History → Load
load_of S H = record {
  connections = openings H - times is_any_closing H;
  in_panic = is_panic S.rules (detection_after S H).state;
  hosts = map (load_at S H) (range_with_len 0 64);
}
