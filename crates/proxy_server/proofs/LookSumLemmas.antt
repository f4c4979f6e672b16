-- Sums of looks with one more.
use Rattle.std.proofs.Common.{◌≡◌, ℕ, ◌||◌, Bool, false, true, List, [], ◌∷◌, ◌++◌, map, get_or, replicate, sym, ap, ◌∙◌, refl}
use Rattle.std.specs.List.{list_any}
use Rattle.std.proofs.lemmas.List.{map-append, get_or-replicate}
use Rattle.std.proofs.lemmas.List.Folds.{list_any-append}
use Rattle.proxy_pages.specs.declared.snapshot.Look.{Look}
use Rattle.proxy_stats.specs.declared.load.HostLoad.{HostLoad}
use Rattle.proxy_server.specs.LookSums.{IsLookSum, IsHostLoadSum, with_load}
use Rattle.proxy_server.proofs.CountSumLemmas.{sum_more}

or_false : (b : Bool) → (b || false) ≡ b
or_false true = refl
or_false false = refl

-- a test of any with one more
pub any_more : {X : Type 0} (p : X → Bool) (xs : List X) (one : X) (x y : Bool) → x ≡ list_any p xs → y ≡ (x || p one) → y ≡ list_any p (xs ++ one ∷ [])
any_more p xs one x y is new =
    new ∙ ap (λ b. b || p one) is ∙ ap (λ b. list_any p xs || b) (sym (or_false (p one))) ∙ sym (list_any-append p xs (one ∷ []))

loads_more : (xs : List HostLoad) (one x y : HostLoad) → IsHostLoadSum xs x → y ≡ with_load x one → IsHostLoadSum (xs ++ one ∷ []) y
loads_more xs one x y is new = record {
  waiting = sum_more (λ a. a.waiting) xs one x.waiting y.waiting is.waiting (ap (λ l. l.waiting) new);
  flying = sum_more (λ a. a.flying) xs one x.flying y.flying is.flying (ap (λ l. l.flying) new);
  is_out = any_more (λ a. a.is_out) xs one x.is_out y.is_out is.is_out (ap (λ l. l.is_out) new);
}

-- the loads of the hosts with those of one more look
pub hosts_more : (xs : List Look) (one x y : Look) (h : ℕ) (d : HostLoad)
    → IsHostLoadSum (map (λ a. get_or a.load.hosts h d) xs) (get_or x.load.hosts h d)
    → get_or y.load.hosts h d ≡ with_load (get_or x.load.hosts h d) (get_or one.load.hosts h d)
    → IsHostLoadSum (map (λ a. get_or a.load.hosts h d) (xs ++ one ∷ [])) (get_or y.load.hosts h d)
hosts_more xs one x y h d is new =
    let at : Look → HostLoad = λ a. get_or a.load.hosts h d in
    rw (map-append at xs (one ∷ [])) (loads_more (map at xs) (at one) (at x) (at y) is new)

abbrev none : HostLoad
none = record { waiting = 0; flying = 0; is_out = false }

-- no look at all
pub no_looks : IsLookSum [] (record { steps = 0; bytes = 0; load = record { connections = 0; in_panic = false; hosts = replicate 64 none } })
no_looks = record {
  steps = refl;
  bytes = refl;
  connections = refl;
  in_panic = refl;
  hosts = λ h d few. rw (get_or-replicate 64 h none d few) (record { waiting = refl; flying = refl; is_out = refl });
}
