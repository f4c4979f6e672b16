use Rattle.proxy_engines.proofs.OwnHistoryLemmas.{keeps_same}
use Rattle.std.proofs.lemmas.Result.{IfOk-weaker}
use Rattle.proxy_engines.specs.HostStep.{HostState}
use Rattle.std.proofs.Common.{rules, refl, ap, ◌∙◌}
use Rattle.proxy_engines.proofs.HostMoves.{stays_on}
use Rattle.proxy_engines.proofs.host.HostEngine.take_one.Goals as goal

pub returns-then-is_empty-clause-moves : goal.returns-then-is_empty-clause-moves
returns-then-is_empty-clause-moves g c =
    rw (← c.self.view_is) (c.take.ensures.moves c.self.inside.link)

pub returns-else-is_empty-clause-moves : goal.returns-else-is_empty-clause-moves
returns-else-is_empty-clause-moves g c =
    record {
      turns = keeps_same _;
      goes = stays_on _ _ _ _ c.args.moment refl;
      plain = tt;
    }

pub returns-then-is_empty-clause-takes : goal.returns-then-is_empty-clause-takes
returns-then-is_empty-clause-takes g c =
    record {
      link = ap (λ (h : HostState). h.link) c.self.view_is ∙ c.requires.none;
      fault = ap (λ (h : HostState). h.fault) c.self.view_is;
      nothing_waits = rw (← c.self.view_is) (IfOk-weaker c.take.result _ _ (λ b waits no _. waits no) c.take.ensures.nothing_waits);
      same = rw (← c.self.view_is) c.take.ensures.none;
    }

pub returns-else-is_empty-clause-takes : goal.returns-else-is_empty-clause-takes
returns-else-is_empty-clause-takes g c =
    record {
      link = c.requires.none;
      fault = refl;
      nothing_waits = search rules;
      same = λ _. refl;
    }
