use Rattle.std.proofs.Common.{◌≡◌, ap, ◌∙◌}
use Rattle.proxy_history.specs.Proxy.{Proxy, history_in}
use Rattle.proxy_core.specs.Recorded.{handover_of, journal_of, made_with}
use Rattle.proxy_stats.specs.Load.{load_of}
use Rattle.proxy_stats.proofs.tallied_core.TalliedCoreRecorded.sight.Goals as goal

pub returns : goal.returns
returns c =
    let handover : c.sight.result ≡ handover_of (made_with c.args.self.now) (journal_of c.args.self.now) =
    c.sight.ensures ∙ ap (λ (k : Proxy). handover_of (made_with k) (journal_of k)) c.self.view_is in
    let load : c.load_of.result ≡ load_of c.args.self.now.setting (history_in c.args.self.now) =
    c.load_of.ensures ∙ ap (λ (k : Proxy). load_of k.setting (history_in k)) c.self.view_is in
    λ i. record { handover = handover i; counts = c.counts.ensures.value i; refused_names = c.refused_names.ensures.value i; load = load i }
