-- What is kept is what the steps so far determine.
use Rattle.std.proofs.Common.{◌≡◌, take}
use Rattle.ejector.specs.State.{fresh_state}
use Rattle.proxy_history.specs.Setting.{Setting}
use Rattle.proxy_history.specs.Proxy.{rules_of}
use Rattle.proxy_history.specs.Hosts.{HaveHosts}
use Rattle.test_reference.specs.Scan.{Shows, history_of}
use Rattle.test_reference.proofs.replay.replayed.Given as goal

abbrev pub invariant-loop-at : goal.invariant-loop-at
invariant-loop-at l = record {
  shows : (S : Setting) → S.ring ≡ l.ring → S.rules ≡ rules_of l.ring l.settings → S.opening ≡ fresh_state S.rules → HaveHosts l.ring.hosts l.steps
      → Shows S (history_of (take l.at l.steps)) l.replay;
  rules : l.replay.ejector.rules ≡ rules_of l.ring l.settings;
}
