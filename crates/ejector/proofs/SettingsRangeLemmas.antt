-- Where no field is out of its range.
use Rattle.std.proofs.Common.{◌≡◌, ℕ, ◌≤◌, nat_le, Bool, true, false, None, List, [], ◌∷◌, refl}
use Rattle.std.proofs.lemmas.Bool.{and_parts, leb-true}
use Rattle.limits.specs.declared.hosts.TheConstants.{MAX_HOSTS}
use Rattle.ejector.specs.declared.settings.Field.{Field}
use Rattle.ejector.specs.declared.settings.Rules.{Rules}
use Rattle.ejector.specs.Settings.{first_fault, first_failing, is_within, field_tests, IsInRange}

-- each test passes
abbrev pub AllPass : List (Field × Bool) → Type 0
AllPass [] = Unit {0}
AllPass (t ∷ ts) = (t.1 ≡ true) × AllPass ts

first_test : (f : Field) (ok : Bool) (rest : List (Field × Bool)) → first_failing ((f, ok) ∷ rest) ≡ None → (ok ≡ true) × (first_failing rest ≡ None)
first_test f true rest e = (refl, e)
first_test f false rest e = cc

pub all_pass : (ts : List (Field × Bool)) → first_failing ts ≡ None → AllPass ts
all_pass [] e = tt
all_pass (t ∷ ts) e = let here = first_test t.0 t.1 ts e in (here.0, all_pass ts here.1)

within : (low high n : ℕ) → is_within low high n ≡ true → (low ≤ n) × (n ≤ high)
within low high n e = let parts = and_parts (nat_le low n) (nat_le n high) e in (leb-true _ _ parts.0, leb-true _ _ parts.1)

pub in_range : (R : Rules) → first_fault R ≡ None → IsInRange R
in_range R e =
    let s = R.settings in
    let (hosts_pass, (_, (base_passes, (longest_passes, (percent_passes, (consecutive_passes, (_, (volume_passes, (factor_passes, (panic_passes, _)))))))))) = all_pass (field_tests R) e in
    let hosts = within 1 MAX_HOSTS R.hosts hosts_pass in
    let base = within 1 3600000 s.base_ms base_passes in
    let longest = within s.base_ms 86400000 s.max_ms longest_passes in
    let percent = within 0 100 s.max_percent percent_passes in
    let consecutive = within 0 1000000 s.consecutive consecutive_passes in
    let volume = within 1 1000000 s.request_volume volume_passes in
    let factor = within 0 100000 s.factor factor_passes in
    let panic = within 0 100 s.panic_percent panic_passes in
    record {
      some_hosts = hosts.0;
      few_hosts = hosts.1;
      some_base = base.0;
      few_base = base.1;
      some_max = longest.0;
      few_max = longest.1;
      few_percent = percent.1;
      few_consecutive = consecutive.1;
      some_volume = volume.0;
      few_factor = factor.1;
      few_panic = panic.1;
    }

pub few_hosts : (R : Rules) → first_fault R ≡ None → R.hosts ≤ MAX_HOSTS
few_hosts R e = let ranges = in_range R e in ranges.few_hosts
