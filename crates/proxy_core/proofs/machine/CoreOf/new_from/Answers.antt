use Rattle.std.proofs.Common.{◌≡◌, ℕ, [], Option, None, Err, refl, sym, ap, ◌∙◌, subst}
use Rattle.std.proofs.lemmas.Result.{IfOk-weaker}
use Rattle.ketama.specs.Continuum.{Continuum}
use Rattle.ejector.specs.Ejector.{Ejection}
use Rattle.ejector.specs.Opening.{IsOpening}
use Rattle.ejector.specs.declared.settings.Field.{Field}
use Rattle.ejector.specs.declared.settings.Rules.{Rules}
use Rattle.ejector.specs.declared.settings.Settings.{Settings}
use Rattle.ejector.specs.Settings.{first_difference}
use Rattle.ejector.proofs.CallerLemmas.{opening_first, no_difference}
use Rattle.proxy_history.specs.Proxy.{Proxy, rules_of, setting_from}
use Rattle.proxy_history.specs.declared.refusal.Refusal.TheVariants as refusal
use Rattle.proxy_core.specs.Core.{detector_state}
use Rattle.proxy_core.proofs.turn.RefusalForLemmas.{refused_by-none, refused_by-some}
use Rattle.proxy_core.proofs.machine.CoreOf.new_from.Goals as goal

-- with an empty journal outlier detection stands where it was
detected-handed : (k : Proxy) (ring : Continuum) (e : Ejection) → k.setting ≡ setting_from ring e → k.steps ≡ [] → IsOpening e.rules e.state → detector_state k ≡ e.state
detected-handed k ring e setting steps opening =
    let same : k ≡ record { setting = setting_from ring e; steps = [] } = λ i. record { setting = setting i; steps = steps i } in
    ap detector_state same ∙ opening_first e.rules e.state opening

-- what differs is told of the rules of the ring and the settings
difference-told : (ring : Continuum) (settings : Settings) (from seen : Rules) (n : ℕ) (told : Option Field) → n ≡ ring.hosts → seen ≡ from
    → told ≡ first_difference (record { hosts = n; settings = settings }) seen → first_difference (rules_of ring settings) from ≡ told
difference-told ring settings from seen n told hosts is e =
    ap (λ m. first_difference (record { hosts = m; settings = settings }) from) (sym hosts)
    ∙ ap (first_difference (record { hosts = n; settings = settings })) (sym is) ∙ sym e

pub returns-in-Ok-clause-rules : goal.returns-in-Ok-clause-rules
returns-in-Ok-clause-rules g c =
    let R = rules_of c.args.ring c.args.settings in
    let from = c.args.from.detection in
    let none : first_difference R from.rules ≡ None =
    difference-told c.args.ring c.args.settings from.rules _ _ _ c.hosts.ensures.value c.rules.ensures.rules c.first_difference.ensures ∙ c.in_default.is in
    let made : c.in-Ok.ejector ≡ from = c.in-Ok.ensures.made ∙ c.into_detection.ensures in
    let same = ap (λ (e : Ejection). e.rules) made ∙ sym (no_difference R from.rules none) in
    IfOk-weaker c.with.result _ _ (λ k is. ap (λ z. z.rules) is.0 ∙ same) c.with.ensures.made

pub returns-in-Ok-clause-state : goal.returns-in-Ok-clause-state
returns-in-Ok-clause-state g c =
    let made : c.in-Ok.ejector ≡ c.args.from.detection = c.in-Ok.ensures.made ∙ c.into_detection.ensures in
    let opening = subst (λ (e : Ejection). IsOpening e.rules e.state) (sym made) c.rules.ensures.opening in
    let same = ap (λ (e : Ejection). e.state) made in
    IfOk-weaker c.with.result _ _ (λ k is. detected-handed k c.args.ring c.in-Ok.ejector is.0 is.1 opening ∙ same) c.with.ensures.made

pub returns-in-Err-clause-made : goal.returns-in-Err-clause-made
returns-in-Err-clause-made g c = tt

pub returns-in-Err-clause-rules : goal.returns-in-Err-clause-rules
returns-in-Err-clause-rules g c = tt

pub returns-in-Err-clause-state : goal.returns-in-Err-clause-state
returns-in-Err-clause-state g c = tt

pub returns-in-Some-clause-made : goal.returns-in-Some-clause-made
returns-in-Some-clause-made g c = tt

pub returns-in-Some-clause-rules : goal.returns-in-Some-clause-rules
returns-in-Some-clause-rules g c = tt

pub returns-in-Some-clause-state : goal.returns-in-Some-clause-state
returns-in-Some-clause-state g c = tt

pub returns-in-Some-clause-refused : goal.returns-in-Some-clause-refused
returns-in-Some-clause-refused g c =
    refused_by-some _ _ _
    (difference-told c.args.ring c.args.settings c.args.from.detection.rules _ _ _ c.hosts.ensures.value c.rules.ensures.rules c.first_difference.ensures ∙ c.in-Some.is)

pub returns-in-Ok-clause-refused : goal.returns-in-Ok-clause-refused
returns-in-Ok-clause-refused g c =
    refused_by-none _ c.with.result
    (difference-told c.args.ring c.args.settings c.args.from.detection.rules _ _ _ c.hosts.ensures.value c.rules.ensures.rules c.first_difference.ensures ∙ c.in_default.is)
    c.with.ensures.refused

pub returns-in-Err-clause-refused : goal.returns-in-Err-clause-refused
returns-in-Err-clause-refused g c =
    refused_by-none _ (Err refusal.NoMemory)
    (difference-told c.args.ring c.args.settings c.args.from.detection.rules _ _ _ c.hosts.ensures.value c.rules.ensures.rules c.first_difference.ensures ∙ c.in_default.is)
    refl
