-- How each host stands, as it is read off one host after the other.
use Rattle.std.proofs.Common.{◌≡◌, ℕ, ◌<◌, ◌≤◌, Bool, if◌then◌else◌, nat_lt, List, length, map, get_or, sym, ap, ◌∙◌, inl, inr, arith}
use Rattle.std.specs.List.{range_with_len}
use Rattle.std.proofs.lemmas.Bool.{cases_Bool, ltb-true, ltb-false}
use Rattle.std.proofs.lemmas.List.{ext_get_or}
use Rattle.std.proofs.lemmas.List.FromFn.{length-map-range_with_len, get_or-map-range_with_len}
use Rattle.proxy_history.specs.Setting.{Setting, hosts}
use Rattle.proxy_history.specs.History.{History}
use Rattle.proxy_stats.specs.Load.{host_load_of, load_at, no_load}
use Rattle.proxy_stats.specs.declared.load.HostLoad.{HostLoad}

-- the first hosts stand as they do, and of the others nothing is told
pub loads_are : (S : Setting) (H : History) (n : ℕ) (loads : List HostLoad) → n ≡ hosts S → length loads ≡ 64
    → ((h : ℕ) (d : HostLoad) → h < n → get_or loads h d ≡ host_load_of S H h)
    → ((h : ℕ) (d : HostLoad) → n ≤ h → h < 64 → get_or loads h d ≡ no_load)
    → loads ≡ map (load_at S H) (range_with_len 0 64)
loads_are S H n loads all long told others =
    let at : Bool → ℕ → HostLoad = λ is h. if is then host_load_of S H h else no_load in
    ext_get_or no_load loads (map (load_at S H) (range_with_len 0 64)) (long ∙ sym (length-map-range_with_len (load_at S H) 0 64)) (λ h within.
    let few : h < 64 = omega (arith, within, long) in
    let here : get_or loads h no_load ≡ load_at S H h = elim (cases_Bool (nat_lt h (hosts S))) [
      | inl t ↦ told h no_load (omega (arith, ltb-true h (hosts S) t, all)) ∙ sym (ap (λ is. at is h) t)
      | inr f ↦ others h no_load (omega (arith, ltb-false h (hosts S) f, all)) few ∙ sym (ap (λ is. at is h) f)
    ] in
    here ∙ sym (get_or-map-range_with_len (load_at S H) 0 64 h h no_load few (omega arith)))
