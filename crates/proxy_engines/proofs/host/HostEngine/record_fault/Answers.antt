use Rattle.std.proofs.Common.{refl}
use Rattle.std.proofs.lemmas.Result.{IfOk-from_err, err_from_is_err_and}
use Rattle.proxy_engines.proofs.host.HostEngine.record_fault.Goals as goal

pub returns : goal.returns
returns g c =
    record {
      records = record {
        turns = c.fail.ensures.records.turns;
        records = rw (c.take.ensures.after, ← c.self.view_is) (record { fails = c.in_ok-fail.ensures.records.fails _; fault = refl; named = rw (← c.self.view_is) at c.requires.named; last = refl });
        kept = tt;
        err = tt;
        due = tt;
      };
    }

pub returns-in_err-fail : goal.returns-in_err-fail
returns-in_err-fail g c =
    let (_, result_is, error_is) = err_from_is_err_and c.from_residual.result c.from_residual.ensures.1 in
    record {
      records = record {
        turns = c.fail.ensures.records.turns;
        records = IfOk-from_err c.from_residual.result _ c.from_residual.ensures.0;
        kept = rw result_is (rw (c.in_err-fail.ensures.records.same.0, ← c.self.view_is) (refl, c.in_err-fail.ensures.records.same.1));
        err = rw (result_is, error_is) c.in_err-fail.ensures.records.err;
        due = rw (result_is, error_is) c.in_err-fail.ensures.records.due;
      };
    }
