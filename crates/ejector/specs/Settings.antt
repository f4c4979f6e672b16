-- The settings of outlier detection, and their ranges.
use Rattle.std.specs.Prelude.{ℕ, Bool, false, not, ◌==◌, ◌≤◌, ◌&&◌, nat_le, if◌then◌else◌, List, [], ◌∷◌, Option, Some, None}
use Rattle.limits.specs.declared.hosts.TheConstants.{MAX_HOSTS}
use Rattle.ejector.specs.declared.settings.Settings.{Settings}
use Rattle.ejector.specs.declared.settings.Rules.{Rules}
use Rattle.ejector.specs.declared.settings.Field.{Field}
use Rattle.ejector.specs.declared.settings.Field.TheVariants.{Hosts, Tags, IntervalMs, BaseMs, MaxMs, MaxPercent, Consecutive, SuccessHosts, RequestVolume, Factor, PanicPercent}

-- the settings where nothing is set
abbrev pub default_settings : Settings
default_settings = record {
  tags = false;
  interval_ms = 10000;
  base_ms = 30000;
  max_ms = 300000;
  max_percent = 10;
  consecutive = 5;
  success_hosts = 5;
  request_volume = 100;
  factor = 1900;
  panic_percent = 50;
}

-- whether a number is in a range
abbrev pub is_within : ℕ → ℕ → ℕ → Bool
is_within low high n = nat_le low n && nat_le n high

-- each field with the answer whether it is in its range, in the order in which they are looked at
abbrev pub settings_tests : Settings → List (Field × Bool)
settings_tests s =
    (IntervalMs, is_within 1 3600000 s.interval_ms) ∷ (BaseMs, is_within 1 3600000 s.base_ms) ∷ (MaxMs, is_within s.base_ms 86400000 s.max_ms)
    ∷ (MaxPercent, is_within 0 100 s.max_percent) ∷ (Consecutive, is_within 0 1000000 s.consecutive) ∷ (SuccessHosts, is_within 1 65 s.success_hosts)
    ∷ (RequestVolume, is_within 1 1000000 s.request_volume) ∷ (Factor, is_within 0 100000 s.factor) ∷ (PanicPercent, is_within 0 100 s.panic_percent) ∷ []

-- each field in its order, with whether it is in its range
abbrev pub field_tests : Rules → List (Field × Bool)
field_tests R = (Hosts, is_within 1 MAX_HOSTS R.hosts) ∷ settings_tests R.settings

-- the first field whose test fails
abbrev pub first_failing : List (Field × Bool) → Option Field
first_failing [] = None
first_failing (t ∷ ts) = if t.1 then first_failing ts else Some t.0

-- the first field that is out of its range
abbrev pub first_fault : Rules → Option Field
first_fault R = first_failing (field_tests R)

-- whether both are so, or neither
abbrev pub are_same : Bool → Bool → Bool
are_same a b = if a then b else not b

-- each setting with the answer whether two have the same, in their order
abbrev pub settings_comparisons : Settings → Settings → List (Field × Bool)
settings_comparisons s t =
    (Tags, are_same s.tags t.tags) ∷ (IntervalMs, s.interval_ms == t.interval_ms)
    ∷ (BaseMs, s.base_ms == t.base_ms) ∷ (MaxMs, s.max_ms == t.max_ms)
    ∷ (MaxPercent, s.max_percent == t.max_percent) ∷ (Consecutive, s.consecutive == t.consecutive)
    ∷ (SuccessHosts, s.success_hosts == t.success_hosts)
    ∷ (RequestVolume, s.request_volume == t.request_volume)
    ∷ (Factor, s.factor == t.factor) ∷ (PanicPercent, s.panic_percent == t.panic_percent) ∷ []

-- the first field in which two rules differ
abbrev pub first_difference : Rules → Rules → Option Field
first_difference R P =
    first_failing ((Hosts, R.hosts == P.hosts) ∷ settings_comparisons R.settings P.settings)

-- what the ranges say of the numbers that are reckoned with
pub record IsInRange (R : Rules) : Type 0 where
  pub some_hosts : 1 ≤ R.hosts
  pub few_hosts : R.hosts ≤ MAX_HOSTS
  pub some_base : 1 ≤ R.settings.base_ms
  pub few_base : R.settings.base_ms ≤ 3600000
  pub some_max : R.settings.base_ms ≤ R.settings.max_ms
  pub few_max : R.settings.max_ms ≤ 86400000
  pub few_percent : R.settings.max_percent ≤ 100
  pub few_consecutive : R.settings.consecutive ≤ 1000000
  pub some_volume : 1 ≤ R.settings.request_volume
  pub few_factor : R.settings.factor ≤ 100000
  pub few_panic : R.settings.panic_percent ≤ 100
