use Rattle.std.proofs.Common.{rules, ap, true, false, inl, inr}
use Rattle.proxy_devices.specs.Device.{Counts}
use Rattle.proxy_engines.specs.Faults.{told_by_outcome}
use Rattle.proxy_engines.proofs.HostMoves.{heard_on}
use Rattle.proxy_engines.proofs.MoveLemmas.{as-none}
use Rattle.proxy_engines.proofs.link.Link.read.Goals as goal
use Rattle.proxy_engines.proofs.link.Link.read.Goals.{in-Moved, in-Idle, in-End, in-Failed}

pub returns-clause-goes : goal.returns-clause-goes
returns-clause-goes g c = λ l H m.
    let given = rw (← c.self.view_is) at c.requires.given in
    rw (← c.self.view_is)
    (elim c.match-read_once.branch [
      | in-Moved w ↦ rw w.result-is (heard_on l _ c.read_once.new.self H m true (rw w.in-Moved.is at c.read_once.ensures.reads.is_told) given c.read_once.ensures.reads.bytes c.read_once.ensures.reads.values)
      | in-Idle w ↦ rw w.result-is (heard_on l _ c.read_once.new.self H m false (rw w.in-Idle.is at c.read_once.ensures.reads.is_told) given c.read_once.ensures.reads.bytes c.read_once.ensures.reads.values)
      | in-End w ↦ as-none _ _ (ap told_by_outcome w.result-is) (_, heard_on l _ c.read_once.new.self H m _ c.read_once.ensures.reads.is_told given c.read_once.ensures.reads.bytes c.read_once.ensures.reads.values)
      | in-Failed w ↦ as-none _ _ (ap told_by_outcome w.result-is) (_, heard_on l _ c.read_once.new.self H m _ c.read_once.ensures.reads.is_told given c.read_once.ensures.reads.bytes c.read_once.ensures.reads.values)
    ])

pub returns-clause-reads : goal.returns-clause-reads
returns-clause-reads g c =
    record {
      keeps = search rules;
      idle = search rules;
      reads = rw (← c.self.view_is)
          (elim c.match-read_once.branch [
            | in-Moved w ↦ λ _. (ap (λ (n : Counts). n.failed) (c.read_once.ensures.reads.moved _ w.in-Moved.is).1, inl (_, (c.read_once.ensures.reads.moved _ w.in-Moved.is).0, c.read_once.ensures.reads.bytes))
            | in-Idle w ↦ λ _. ((c.read_once.ensures.reads.idle w.in-Idle.is).1.failed, inr (c.read_once.ensures.reads.idle w.in-Idle.is).1.paused)
            | in-End w ↦ rw w.result-is (λ calm. absurd cc)
            | in-Failed w ↦ rw w.result-is (λ calm. absurd cc)
          ]);
      fault = search rules;
    }
