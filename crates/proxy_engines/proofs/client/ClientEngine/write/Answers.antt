use Rattle.proxy_engines.proofs.OwnHistoryLemmas.{keeps_same}
use Rattle.engine_work.specs.declared.error.EngineError.{EngineError}
use Rattle.proxy_devices.specs.Device.{Counts, HasFailed}
use Rattle.proxy_engines.specs.Client.{Client}
use Rattle.proxy_engines.proofs.AnswerLemmas.{cut_told, cut_ok, cut_err}
use Rattle.std.proofs.Common.{true, false, ap, refl, inl, inr}
use Rattle.proxy_engines.proofs.ClientMoves.{wrote_goes}
use Rattle.std.specs.Prelude.{Err}
use Rattle.proxy_engines.proofs.RefusalLemmas.{due_cut}
use Rattle.proxy_engines.proofs.client.ClientEngine.write.Goals as goal

pub returns-in-Moved-clause-moves : goal.returns-in-Moved-clause-moves
returns-in-Moved-clause-moves g c =
    record {
      turns = keeps_same _;
      goes = let (gave, sends, moved) = c.in-Moved.ensures.writes.bytes in
          rw (← c.self.view_is) (wrote_goes _ c.write_once.new.self gave _ true (rw (← c.self.view_is) at c.requires.live) sends moved);
      unfailed = rw (← c.self.view_is) (refl, ap (λ (n : Counts). n.failed) (c.write_once.ensures.writes.counts.moved _ c.in-Moved.is));
      due = tt;
    }

pub returns-in-Idle-clause-moves : goal.returns-in-Idle-clause-moves
returns-in-Idle-clause-moves g c =
    record {
      turns = keeps_same _;
      goes = let (gave, sends, moved) = rw c.in-Idle.is at c.write_once.ensures.writes.bytes in
          rw (← c.self.view_is) (wrote_goes _ c.write_once.new.self gave _ false (rw (← c.self.view_is) at c.requires.live) sends moved);
      unfailed = rw (← c.self.view_is) (refl, (c.write_once.ensures.writes.counts.idle c.in-Idle.is).failed);
      due = tt;
    }

pub returns-in-End-clause-moves : goal.returns-in-End-clause-moves
returns-in-End-clause-moves g c =
    record {
      turns = c.cut.ensures.turns;
      goes = let (gave, sends, moved) = c.write_once.ensures.writes.bytes in
          rw (← c.self.view_is) (cut_told _ _ _ _ _ _ _ _ c.cut.result refl (wrote_goes _ c.write_once.new.self gave _ _ (rw (← c.self.view_is) at c.requires.live) sends moved) c.cut.ensures.cuts);
      unfailed = cut_ok _ _ _ _ _ EngineError.WriteFailed c.cut.result c.cut.ensures.cuts;
      due = due_cut _ (Err EngineError.WriteFailed) c.cut.result tt c.cut.ensures.due;
    }

pub returns-in-Moved-clause-writes : goal.returns-in-Moved-clause-writes
returns-in-Moved-clause-writes g c =
    record {
      ok = rw (← c.self.view_is) (refl, inl refl);
      err = tt;
    }

pub returns-in-Idle-clause-writes : goal.returns-in-Idle-clause-writes
returns-in-Idle-clause-writes g c =
    record {
      ok = rw (← c.self.view_is) (refl, inr (refl, c.write_once.ensures.writes.counts.idle c.in-Idle.is));
      err = tt;
    }

pub returns-in-End-clause-writes : goal.returns-in-End-clause-writes
returns-in-End-clause-writes g c =
    record {
      ok = cut_ok _ _ _ _ _ EngineError.WriteFailed c.cut.result c.cut.ensures.cuts;
      err = rw (← c.self.view_is)
          (cut_err _ _ _ _ (λ (e : Client). HasFailed c.self.inside.outbox.counts e.outbox.counts) EngineError.WriteFailed c.cut.result (c.write_once.ensures.writes.counts.failed c.in-End.is) c.cut.ensures.cuts);
    }
