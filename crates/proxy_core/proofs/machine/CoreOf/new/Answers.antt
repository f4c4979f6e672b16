use Rattle.std.proofs.Common.{◌≡◌, ℕ, ap, ◌∙◌}
use Rattle.std.proofs.lemmas.Result.{IfOk-weaker}
use Rattle.ketama.specs.Continuum.{Continuum}
use Rattle.ejector.specs.declared.settings.Rules.{Rules}
use Rattle.ejector.specs.declared.settings.Settings.{Settings}
use Rattle.ejector.specs.Ejector.{Ejection}
use Rattle.ejector.specs.State.{fresh_state}
use Rattle.proxy_history.specs.Proxy.{rules_of, setting_from, setting_of}
use Rattle.proxy_core.proofs.turn.RefusalForLemmas.{refused_by-error, refused_by-range}
use Rattle.proxy_core.proofs.machine.CoreOf.new.Goals as goal

-- with fresh hosts it is the setting of the ring and the settings
setting_from-fresh : (ring : Continuum) (settings : Settings) (n : ℕ) (e : Ejection) → n ≡ ring.hosts → e.rules ≡ record { hosts = n; settings = settings }
    → e.state ≡ fresh_state e.rules → setting_from ring e ≡ setting_of ring settings
setting_from-fresh ring settings n e hosts rules state =
    let its : e.rules ≡ rules_of ring settings = rules ∙ ap (λ m. let r : Rules = record { hosts = m; settings = settings } in r) hosts in
    let fresh = state ∙ ap fresh_state its in
    λ i. record { ring = ring; rules = its i; opening = fresh i }

pub with-requires : goal.with-requires
with-requires g c = ap (λ (r : Rules). r.hosts) c.in-Ok.ensures.made.0 ∙ c.hosts.ensures.value

pub returns-in-Ok-clause-made : goal.returns-in-Ok-clause-made
returns-in-Ok-clause-made g c =
    IfOk-weaker c.with.result _ _
    (λ k is. (is.0 ∙ setting_from-fresh c.args.ring c.args.settings c.hosts.result c.in-Ok.ejector c.hosts.ensures.value c.in-Ok.ensures.made.0 c.in-Ok.ensures.made.1, is.1))
    c.with.ensures.made

pub returns-in-Ok-clause-refused : goal.returns-in-Ok-clause-refused
returns-in-Ok-clause-refused g c = refused_by-range c.args.ring c.args.settings c.hosts.result c.hosts.ensures.value c.with.result c.with.ensures.refused c.in-Ok.ejector c.in-Ok.ensures.refused

pub returns-in-Err-clause-made : goal.returns-in-Err-clause-made
returns-in-Err-clause-made g c = tt

pub returns-in-Err-clause-refused : goal.returns-in-Err-clause-refused
returns-in-Err-clause-refused g c = refused_by-error c.args.ring c.args.settings c.hosts.result c.hosts.ensures.value c.in-Err.error c.refusal_of.result c.refusal_of.ensures c.in-Err.ensures.refused
