use Rattle.std.proofs.Common.{◌≡◌, ℕ, Bool, true, false, ◌||◌, length, map, not, replicate, sym, ap, ◌∙◌}
use Rattle.std.proofs.lemmas.Simd.{map-map, splat_is_map}
use Rattle.std.proofs.lemmas.List.FromFn.{length-range_with_len}
use Rattle.ejector.specs.declared.settings.Rules.{Rules}
use Rattle.ejector.specs.State.{State, is_out, host_of, hosts_of}
use Rattle.ejector.specs.UsableHosts.{is_panic, is_usable}
use Rattle.ejector.specs.Counting.{is_in, outs}
use Rattle.ejector.specs.Ejector.{Ejection}
use Rattle.ejector.proofs.OutLimitLemmas.{hosts_are}
use Rattle.ejector.proofs.ejector.Ejector.all_usable.Goals as goal

-- in panic all are usable
in_panic : (R : Rules) (x : State) (n : ℕ) → n ≡ R.hosts → is_panic R x ≡ true → replicate n true ≡ map (is_usable R x) (hosts_of R)
in_panic R x n e p =
    splat_is_map (hosts_of R) n true (length-range_with_len 0 R.hosts ∙ sym e)
    ∙ ap (λ (b : Bool). map (λ h. b || not (is_out x h)) (hosts_of R)) (sym p)

-- else those that aren't out
not_in_panic : (R : Rules) (x : State) → length x.hosts ≡ R.hosts → is_panic R x ≡ false → map is_in x.hosts ≡ map (is_usable R x) (hosts_of R)
not_in_panic R x e p =
    ap (map is_in) (hosts_are R x e) ∙ map-map is_in (host_of x) (hosts_of R)
    ∙ ap (λ (b : Bool). map (λ h. b || not (is_out x h)) (hosts_of R)) (sym p)

pub returns-then-is_panic : goal.returns-then-is_panic
returns-then-is_panic c =
    let e = c.args.self.now in
    let kept : c.deref.result.now ≡ e.state.hosts = c.deref.ensures.value ∙ ap (λ (k : Ejection). k.state.hosts) c.self.view_is in
    let rules : c.self.inside.rules ≡ e.rules = ap (λ (k : Ejection). k.rules) c.self.view_is in
    let out : c.set_in-out.result ≡ outs e.state.hosts = c.set_in-out.ensures.count ∙ ap outs kept in
    let panic : is_panic e.rules e.state ≡ true = rw (← rules, ← out) (sym c.is_panic.ensures ∙ c.if-is_panic.true) in
    let size : length c.set_in-out.new.places ≡ e.rules.hosts = c.set_in-out.auto.places ∙ c.requires in
    c.set_all.ensures ∙ in_panic e.rules e.state (length c.set_in-out.new.places) size panic

pub returns-else-is_panic : goal.returns-else-is_panic
returns-else-is_panic c =
    let e = c.args.self.now in
    let kept : c.deref.result.now ≡ e.state.hosts = c.deref.ensures.value ∙ ap (λ (k : Ejection). k.state.hosts) c.self.view_is in
    let rules : c.self.inside.rules ≡ e.rules = ap (λ (k : Ejection). k.rules) c.self.view_is in
    let out : c.set_in-out.result ≡ outs e.state.hosts = c.set_in-out.ensures.count ∙ ap outs kept in
    let panic : is_panic e.rules e.state ≡ false = rw (← rules, ← out) (sym c.is_panic.ensures ∙ c.if-is_panic.false) in
    let size : length e.state.hosts ≡ e.rules.hosts =
    ap (λ (k : Ejection). length k.state.hosts) (sym c.self.view_is) ∙ c.self.invariant.1.hosts ∙ ap (λ (k : Rules). k.hosts) rules in
    c.set_in-out.ensures.places ∙ ap (map is_in) kept ∙ not_in_panic e.rules e.state size panic
