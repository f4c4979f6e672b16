-- Rules that differ in no field are the same.
use Rattle.std.proofs.Common.{◌≡◌, Bool, true, false, ◌==◌, None, ◌∷◌, refl}
use Rattle.std.proofs.lemmas.Bool.{eqb-true}
use Rattle.ejector.specs.declared.settings.Rules.{Rules}
use Rattle.ejector.specs.declared.settings.Field.TheVariants.{Hosts}
use Rattle.ejector.specs.Settings.{are_same, settings_comparisons, first_difference}
use Rattle.ejector.proofs.SettingsRangeLemmas.{all_pass}

same_if : (a b : Bool) → are_same a b ≡ true → a ≡ b
same_if true true e = refl
same_if true false e = cc
same_if false true e = cc
same_if false false e = refl

pub no_difference : (R P : Rules) → first_difference R P ≡ None → R ≡ P
no_difference R P e =
    let s = R.settings in
    let t = P.settings in
    let (hosts_pass, (tags_pass, (interval_passes, (base_passes, (longest_passes, (percent_passes, (consecutive_passes, (success_passes, (volume_passes, (factor_passes, (panic_passes, _))))))))))) = all_pass ((Hosts, R.hosts == P.hosts) ∷ settings_comparisons s t) e in
    let hosts = eqb-true R.hosts P.hosts hosts_pass in
    let tags = same_if s.tags t.tags tags_pass in
    let interval = eqb-true s.interval_ms t.interval_ms interval_passes in
    let base = eqb-true s.base_ms t.base_ms base_passes in
    let longest = eqb-true s.max_ms t.max_ms longest_passes in
    let percent = eqb-true s.max_percent t.max_percent percent_passes in
    let consecutive = eqb-true s.consecutive t.consecutive consecutive_passes in
    let success = eqb-true s.success_hosts t.success_hosts success_passes in
    let volume = eqb-true s.request_volume t.request_volume volume_passes in
    let factor = eqb-true s.factor t.factor factor_passes in
    let panic = eqb-true s.panic_percent t.panic_percent panic_passes in
    λ i. record {
      hosts = hosts i;
      settings = record {
        tags = tags i;
        interval_ms = interval i;
        base_ms = base i;
        max_ms = longest i;
        max_percent = percent i;
        consecutive = consecutive i;
        success_hosts = success i;
        request_volume = volume i;
        factor = factor i;
        panic_percent = panic i;
      };
    }
