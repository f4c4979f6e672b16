use Rattle.std.proofs.Common.{sym, ap, ◌∙◌}
use Rattle.resp_core.specs.PartialValue.{held_of, shown_progress}
use Rattle.resp_core.specs.ReaderState.{ReaderState, unread_by, unread_bytes}
use Rattle.resp_core.proofs.streams.ReaderStateLemmas.{none_if, leaves}
use Rattle.resp_core.proofs.reader.Reader.held.Goals as goal

pub returns-in-None-clause-is : goal.returns-in-None-clause-is
returns-in-None-clause-is c =
    c.held.ensures ∙ ap (λ o. unread_by o (shown_progress c.self.inside.progress)) (sym c.in-None.is) ∙ ap unread_bytes c.self.view_is

pub returns-in-None-clause-left : goal.returns-in-None-clause-left
returns-in-None-clause-left c = λ b ts h.
    let none = sym (ap (λ (z : ReaderState). z.refusal) c.self.view_is) ∙ c.in-None.is in
    none_if none (leaves c.args.self.now b ts _ (c.held.ensures ∙ ap (λ (z : ReaderState). held_of z.progress) c.self.view_is) h none)
