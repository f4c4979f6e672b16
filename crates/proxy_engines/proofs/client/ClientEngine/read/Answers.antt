use Rattle.proxy_engines.proofs.OwnHistoryLemmas.{keeps_same}
use Rattle.engine_work.specs.declared.error.EngineError.{EngineError}
use Rattle.proxy_devices.specs.Device.{Counts, HasFailed}
use Rattle.proxy_engines.specs.Client.{Client}
use Rattle.proxy_engines.proofs.AnswerLemmas.{cut_told, cut_ok, cut_err, if_ok, if_err}
use Rattle.std.proofs.Common.{true, false, refl, inl, inr, ◌∙◌, ap, rules}
use Rattle.proxy_engines.specs.Moves.{told_by_step}
use Rattle.proxy_engines.proofs.ClientMoves.{read_goes, told_then}
use Rattle.proxy_engines.proofs.IdleLemmas.{given_still}
use Rattle.std.specs.Prelude.{Err}
use Rattle.proxy_engines.proofs.RefusalLemmas.{due_cut}
use Rattle.proxy_engines.proofs.client.ClientEngine.read.Goals as goal

pub returns-in-End-clause-moves : goal.returns-in-End-clause-moves
returns-in-End-clause-moves g c =
    record {
      turns = c.stop_reading.ensures.moves.turns;
      goes = let all = rw (← c.self.view_is) at c.requires.all in
          rw (← c.self.view_is)
          (told_then _ _ _ _ _ _ (told_by_step c.stop_reading.result) (read_goes _ c.read_once.new.self _ false (rw c.in-End.is at c.read_once.ensures.reads.is_told) (rw (← c.self.view_is) at c.requires.stage) (rw (← c.self.view_is) at c.requires.reads) all.none_refused all.none_fresh c.read_once.ensures.reads.bytes c.read_once.ensures.reads.values)
          c.stop_reading.ensures.moves.goes);
      unfailed = let (_, _, same) = c.read_once.ensures.reads.end c.in-End.is in
          rw (← c.self.view_is) (if_ok _ _ c.stop_reading.result (λ p (read, written). (read ∙ ap (λ (n : Counts). n.failed) same, written)) c.stop_reading.ensures.moves.unfailed);
      due = c.stop_reading.ensures.moves.due;
    }

pub returns-in-Moved-clause-moves : goal.returns-in-Moved-clause-moves
returns-in-Moved-clause-moves g c =
    record {
      turns = keeps_same _;
      goes = let all = rw (← c.self.view_is) at c.requires.all in
          rw (← c.self.view_is) (read_goes _ c.read_once.new.self _ true (rw c.in-Moved.is at c.read_once.ensures.reads.is_told) (rw (← c.self.view_is) at c.requires.stage) (rw (← c.self.view_is) at c.requires.reads) all.none_refused all.none_fresh c.read_once.ensures.reads.bytes c.read_once.ensures.reads.values);
      unfailed = rw (← c.self.view_is) (ap (λ (n : Counts). n.failed) (c.read_once.ensures.reads.moved _ c.in-Moved.is).1, refl);
      due = tt;
    }

pub returns-in-Idle-clause-moves : goal.returns-in-Idle-clause-moves
returns-in-Idle-clause-moves g c =
    record {
      turns = keeps_same _;
      goes = let all = rw (← c.self.view_is) at c.requires.all in
          rw (← c.self.view_is) (read_goes _ c.read_once.new.self _ false (rw c.in-Idle.is at c.read_once.ensures.reads.is_told) (rw (← c.self.view_is) at c.requires.stage) (rw (← c.self.view_is) at c.requires.reads) all.none_refused all.none_fresh c.read_once.ensures.reads.bytes c.read_once.ensures.reads.values);
      unfailed = rw (← c.self.view_is) ((c.read_once.ensures.reads.idle c.in-Idle.is).1.failed, refl);
      due = tt;
    }

pub stop_reading-requires-clause-done : goal.stop_reading-requires-clause-done
stop_reading-requires-clause-done g c =
    record {
      unbroken = search rules;
      none = search rules;
      all = λ _.
          let all = rw (← c.self.view_is) at c.requires.all in
          given_still _ c.read_once.new.self all (c.read_once.ensures.reads.end c.in-End.is).0 c.read_once.ensures.reads.values;
      over = search rules;
    }

pub returns-in-Failed-clause-moves : goal.returns-in-Failed-clause-moves
returns-in-Failed-clause-moves g c =
    record {
      turns = c.cut.ensures.turns;
      goes = let all = rw (← c.self.view_is) at c.requires.all in
          rw (← c.self.view_is)
          (cut_told _ _ _ _ _ _ _ _ c.cut.result refl (read_goes _ c.read_once.new.self _ _ c.read_once.ensures.reads.is_told (rw (← c.self.view_is) at c.requires.stage) (rw (← c.self.view_is) at c.requires.reads) all.none_refused all.none_fresh c.read_once.ensures.reads.bytes c.read_once.ensures.reads.values)
          c.cut.ensures.cuts);
      unfailed = cut_ok _ _ _ _ _ EngineError.ReadFailed c.cut.result c.cut.ensures.cuts;
      due = due_cut _ (Err EngineError.ReadFailed) c.cut.result tt c.cut.ensures.due;
    }

pub returns-in-Moved-clause-reads : goal.returns-in-Moved-clause-reads
returns-in-Moved-clause-reads g c =
    record {
      ok = (rw (ap (λ (e : Client). e.stage) c.self.view_is ∙ c.requires.stage) tt, inl refl);
      err = tt;
    }

pub returns-in-Idle-clause-reads : goal.returns-in-Idle-clause-reads
returns-in-Idle-clause-reads g c =
    record {
      ok = let all = rw (← c.self.view_is) at c.requires.all in
          let idle = c.read_once.ensures.reads.idle c.in-Idle.is in
          (rw (ap (λ (e : Client). e.stage) c.self.view_is ∙ c.requires.stage) tt, inr (refl, (rw (← c.self.view_is) at c.requires.none, given_still _ c.read_once.new.self all idle.0 c.read_once.ensures.reads.values, rw (← c.self.view_is) idle.1)));
      err = tt;
    }

pub returns-in-Failed-clause-reads : goal.returns-in-Failed-clause-reads
returns-in-Failed-clause-reads g c =
    record {
      ok = cut_ok _ _ _ _ _ EngineError.ReadFailed c.cut.result c.cut.ensures.cuts;
      err = let failed = c.read_once.ensures.reads.failed c.in-Failed.is in
          rw (← c.self.view_is)
          (cut_err _ _ _ _ (λ (e : Client). HasFailed c.self.inside.inbox.counts e.inbox.counts) EngineError.ReadFailed c.cut.result failed.1 c.cut.ensures.cuts);
    }

pub returns-in-End-clause-reads : goal.returns-in-End-clause-reads
returns-in-End-clause-reads g c =
    record {
      ok = if_ok _ _ c.stop_reading.result (λ p (live, moved). (live, inl moved)) c.stop_reading.ensures.stops.ok;
      err = if_err _ _ c.stop_reading.result (λ e turn. inr turn) c.stop_reading.ensures.stops.err;
    }
