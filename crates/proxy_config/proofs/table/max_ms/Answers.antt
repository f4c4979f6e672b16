use Rattle.std.proofs.Common.{ℕ, subst}
use Rattle.std.specs.Prelude.{IfOk, IfErr}
use Rattle.serde_json.specs.Find.{get}
use Rattle.serde_json.specs.View.{view}
use Rattle.proxy_config.specs.Table.{IsNumberOr, MaxMs, name_of}
use Rattle.proxy_config.proofs.table.max_ms.Goals as goal

pub returns-clause-ok : goal.returns-clause-ok
returns-clause-ok c =
    subst (λ default. IfOk c.number.result (λ n. IsNumberOr default c.args.base_ms 86400000 (get (name_of MaxMs) (view c.args.file.now)) n)) c.max.ensures
    c.number.ensures.ok

pub returns-clause-none : goal.returns-clause-none
returns-clause-none c =
    subst (λ default. IfErr c.number.result (λ _. (n : ℕ) → ¬ IsNumberOr default c.args.base_ms 86400000 (get (name_of MaxMs) (view c.args.file.now)) n)) c.max.ensures
    c.number.ensures.none
