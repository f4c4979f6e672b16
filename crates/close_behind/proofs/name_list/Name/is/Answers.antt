use Rattle.std.proofs.Common.{sym, ◌∙◌}
use Rattle.close_behind.proofs.NameLemmas.{compared}
use Rattle.close_behind.proofs.name_list.Name.is.Goals as goal

pub returns : goal.returns
returns c = sym (compared c.eq_ignore_ascii_case.result c.args.name.now c.args.self.now c.as_slice.result.now (c.as_slice.ensures.value ∙ c.self.view_is) c.eq_ignore_ascii_case.ensures.test)
