-- Which generations have connections.
use Rattle.std.proofs.Common.{◌≡◌, ◌⊎◌, ◌==◌, ◌||◌, ◌&&◌, ◌<◌, not, ℕ, true, false, Some, option_to_list, List, [], ◌∷◌, Contains, inl, inr, ap, arith}
use Rattle.std.proofs.lemmas.Bool.{eq-eqb, eqb-true, ne_eqb, or_cases, or_left, or_right, and_parts, and_from, not_from_false, false_from_ne_true}
use Rattle.std.proofs.lemmas.List.Elements.{All-contains, Contains-append_left, Contains-append_right, Contains-append_cases}
use Rattle.proxy_generations.specs.Events.{Event, Taken, Opened, Failed, Near, Full, Renewed, Progressed, Drained, Swept, newest, draining, has_connections}
use Rattle.proxy_generations.specs.History.{IsHistory}
use Rattle.proxy_generations.proofs.HistoryLemmas.{ordered, same}
use Rattle.proxy_generations.proofs.OlderLemmas.{from_filter, filter_has, in_option, option_has}

module _ {H : Type 0} where
  -- it is the newest one, or it drains
  abbrev pub IsOpen : List (Event H) → ℕ → Type 0
  IsOpen es n = (newest es ≡ Some n) ⊎ Contains (draining es) n

  newest_drains : (n : ℕ) (es : List (Event H)) → newest es ≡ Some n → Contains (option_to_list (newest es)) n
  newest_drains n es e = rw e (option_has n)

  connected_opened : (m t n : ℕ) (es : List (Event H)) → (has_connections n es ≡ true → IsOpen es n)
      → ((m == n) || has_connections n es) ≡ true → IsOpen (Opened m t ∷ es) n
  connected_opened m t n es before h = elim (or_cases (m == n) (has_connections n es) h) [
    | inl is ↦ inl (ap Some (eqb-true m n is))
    | inr has ↦ elim (before has) [
      | inl e ↦ inr (Contains-append_right (draining es) (option_to_list (newest es)) n (newest_drains n es e))
      | inr c ↦ inr (Contains-append_left (draining es) (option_to_list (newest es)) n c)
    ]
  ]

  connected_drained : (m n : ℕ) (es : List (Event H)) → (has_connections n es ≡ true → IsOpen es n)
      → (not (m == n) && has_connections n es) ≡ true → IsOpen (Drained m ∷ es) n
  connected_drained m n es before h =
      let parts = and_parts (not (m == n)) (has_connections n es) h in
      elim (before parts.1) [
        | inl e ↦ inl e
        | inr c ↦ inr (filter_has (λ k. not (m == k)) (draining es) n parts.0 c)
      ]

  -- what has connections is the newest one or drains
  pub connected : (es : List (Event H)) → IsHistory es → (n : ℕ) → has_connections n es ≡ true → IsOpen es n
  connected [] h n c = absurd cc
  connected (Taken m ∷ es) (may, h) n c = connected es h n c
  connected (Opened m t ∷ es) (may, h) n c = connected_opened m t n es (connected es h n) c
  connected (Failed m ∷ es) (may, h) n c = connected es h n c
  connected (Near m t ∷ es) (may, h) n c = connected es h n c
  connected (Full m t x ∷ es) (may, h) n c = connected es h n c
  connected (Renewed m x ∷ es) (may, h) n c = connected es h n c
  connected (Progressed m t ∷ es) (may, h) n c = connected es h n c
  connected (Drained m ∷ es) (may, h) n c = connected_drained m n es (connected es h n) c
  connected (Swept m t ∷ es) (may, h) n c = connected es h n c

  connects_opened : (m t n : ℕ) (es : List (Event H)) → (IsOpen es n → has_connections n es ≡ true)
      → IsOpen (Opened m t ∷ es) n → ((m == n) || has_connections n es) ≡ true
  connects_opened m t n es before (inl e) = or_left (m == n) (has_connections n es) (eq-eqb m n (same m n e))
  connects_opened m t n es before (inr c) = elim (Contains-append_cases (draining es) (option_to_list (newest es)) n c) [
    | inl d ↦ or_right (m == n) (has_connections n es) (before (inr d))
    | inr o ↦ or_right (m == n) (has_connections n es) (before (inl (in_option (newest es) n o)))
  ]

  connects_drained : (m n : ℕ) (es : List (Event H)) → IsHistory es → Contains (draining es) m
      → (IsOpen es n → has_connections n es ≡ true)
      → IsOpen (Drained m ∷ es) n → (not (m == n) && has_connections n es) ≡ true
  connects_drained m n es h may before (inl e) =
      let less : m < n = All-contains (λ k. k < n) (draining es) m ((ordered es h).older n e) may in
      and_from (not (m == n)) (has_connections n es) (not_from_false (m == n) (ne_eqb m n (λ is. omega arith))) (before (inl e))
  connects_drained m n es h may before (inr c) =
      let parts = from_filter (λ k. not (m == k)) (draining es) n c in
      and_from (not (m == n)) (has_connections n es) parts.0 (before (inr parts.1))

  -- and each of these has connections
  pub connects : (es : List (Event H)) → IsHistory es → (n : ℕ) → IsOpen es n → has_connections n es ≡ true
  connects [] h n (inl e) = absurd cc
  connects [] h n (inr (k, less, e)) = absurd (omega arith)
  connects (Taken m ∷ es) (may, h) n o = connects es h n o
  connects (Opened m t ∷ es) (may, h) n o = connects_opened m t n es (connects es h n) o
  connects (Failed m ∷ es) (may, h) n o = connects es h n o
  connects (Near m t ∷ es) (may, h) n o = connects es h n o
  connects (Full m t x ∷ es) (may, h) n o = connects es h n o
  connects (Renewed m x ∷ es) (may, h) n o = connects es h n o
  connects (Progressed m t ∷ es) (may, h) n o = connects es h n o
  connects (Drained m ∷ es) (may, h) n o = connects_drained m n es h may (connects es h n) o
  connects (Swept m t ∷ es) (may, h) n o = connects es h n o

  -- the newest one doesn't drain
  pub apart : (es : List (Event H)) → IsHistory es → (n : ℕ) → newest es ≡ Some n → Contains (draining es) n → ⊥
  apart es h n e c = let less : n < n = All-contains (λ k. k < n) (draining es) n ((ordered es h).older n e) c in omega arith

  -- neither is without connections
  pub not_gone : (es : List (Event H)) → IsHistory es → (n : ℕ) → IsOpen es n → has_connections n es ≡ false → ⊥
  not_gone es h n o gone = absurd (let has = connects es h n o in cc)

  -- a generation that is neither has none
  pub gone : (es : List (Event H)) → IsHistory es → (n : ℕ) → (newest es ≡ Some n → ⊥) → (Contains (draining es) n → ⊥)
      → has_connections n es ≡ false
  gone es h n a b = false_from_ne_true (has_connections n es) (λ has. elim (connected es h n has) [ inl e ↦ a e | inr c ↦ b c ])
