use Rattle.std.proofs.Common.{◌≡◌, subst}
use Rattle.proxy_history.specs.Proxy.{Proxy}
use Rattle.proxy_core.specs.Recorded.{IsLegalJournal, journal_of, made_with}
use Rattle.ticket_gate.specs.Journal.{steps_of}
use Rattle.ticket_gate.specs.Turns.{AloneFacts}
use Rattle.proxy_local.proofs.RunLemmas.{RunsLocal-alone, RunsLocal-written}
use Rattle.proxy_local.proofs.local.local_run.Goals as goal

pub returns : goal.returns
returns g c =
    let last = c.turns-3 in
    let opened = rw c.new-turns.ensures at c.in_ok-client.ensures.opened.opened in
    let begins = c.in_ok-client.ensures.carries in
    let (client, kept, goes, ended) = c.in_ok-ran.ensures.runs in
    let closed = rw c.in_ok-ran-2.was at ended in
    let ran = RunsLocal-alone c.in_ok-stub_core.field-0 c.open_client.new.turns c.run_to_end.new.turns _ c.in_ok-client.client client
    c.in_ok-stub_core.ensures.empty c.in_ok-stub_core.ensures.setting opened (rw c.new-turns.ensures at c.in_ok-client.ensures.turns.pass_is) (rw c.new-turns.ensures at c.in_ok-client.ensures.turns.setting_is)
    begins c.in_ok-client.ensures.opened.reads c.in_ok-client.ensures.opened.behind_is goes closed c.in_ok-ran.ensures.pass c.in_ok-ran.ensures.setting
    (subst (λ (t : AloneFacts Proxy). IsLegalJournal (made_with t.state) (journal_of t.state)) last.view_is last.invariant.is_legal)
    (subst (λ (t : AloneFacts Proxy). steps_of t.pass (journal_of t.state) ≡ journal_of t.state) last.view_is last.invariant.own) in
    let begun = rw (c.in_ok-client.ensures.opened.left_is, c.in_ok-client.ensures.opened.held_is) at ran in
    record { runs = RunsLocal-written _ _ _ _ begun kept }
