-- Lines that are looked at from the middle on.
use Rattle.std.proofs.Common.{◌≡◌, ◌==◌, Bool, true, false, ℕ, zero, suc, add-one, ◌+◌, ◌-◌, ◌<◌, ◌≤◌, List, [], ◌∷◌, ◌++◌, length, get_or, take, drop, drop-cons, append-nil, subst, refl, sym, ap, ◌∙◌, append_assoc, arith}
use Rattle.std.proofs.lemmas.List.{take_all, take_rest, length-drop, length-append, length-take, take-append-drop, take-append-le}
use Rattle.resp_core.specs.declared.error.Refusal.TheVariants.{BadLineEnd}
use Rattle.resp_core.specs.Grammar.{max_line}
use Rattle.resp_core.specs.Reading.{found, unfinished, refused, and_then, byte_at, text_at}
use Rattle.resp_core.specs.SeenBytes.{IsSeen}
use Rattle.resp_core.proofs.reading.PartLemmas.{stops, ends, goes, text_step, line_end_behind}
use Rattle.resp_core.proofs.unfinished.ResumedReadingLemmas.{take_of_take}

-- a line whose next byte is CR
pub at_cr : (bytes : List ℕ) (i : ℕ) → i < length bytes → get_or bytes i 0 ≡ 13 → text_at (take i bytes) (drop i bytes) ≡ and_then (byte_at 10 (λ _. BadLineEnd) (take (length bytes - (i + 1)) (drop (i + 1) bytes))) (λ _ rest. found (take i bytes) rest)
unfolding text_at
at_cr bytes i h e =
    let all : take (length bytes - (i + 1)) (drop (i + 1) bytes) ≡ drop (i + 1) bytes = take_all (length bytes - (i + 1)) (drop (i + 1) bytes) (omega (arith, length-drop (i + 1) bytes)) in
    let parts : drop i bytes ≡ 13 ∷ drop (i + 1) bytes = rw add-one (drop-cons bytes i 0 h ∙ ap (λ z. z ∷ drop (suc i) bytes) e) in
    rw (parts, all) refl

-- a line whose next byte is LF
pub at_lf : (bytes : List ℕ) (i : ℕ) → i < length bytes → get_or bytes i 0 ≡ 10 → text_at (take i bytes) (drop i bytes) ≡ refused BadLineEnd (take (length bytes - i) (drop i bytes))
unfolding text_at
at_lf bytes i h e =
    let parts : drop i bytes ≡ 10 ∷ drop (i + 1) bytes = rw add-one (drop-cons bytes i 0 h ∙ ap (λ z. z ∷ drop (suc i) bytes) e) in
    rw (take_rest bytes i, parts) refl

-- nothing of a line was looked at
pub none_seen : (b : List ℕ) → IsSeen 0 b
none_seen b = record { inside = omega arith; few = omega arith; same = λ y. refl }

-- more bytes come behind
pub seen_fed : (seen : ℕ) (b x : List ℕ) → IsSeen seen b → IsSeen seen (b ++ x)
seen_fed seen b x s = record {
  inside = omega (arith, s.inside, length-append b x);
  few = s.few;
  same = rw (take-append-le seen b x s.inside) s.same;
}

-- what is looked at from there on
pub seen_same : (seen : ℕ) (b y : List ℕ) → IsSeen seen b → text_at (take seen b) (drop seen b ++ y) ≡ text_at [] (b ++ y)
seen_same seen b y s = s.same (drop seen b ++ y) ∙ ap (text_at []) (sym (append_assoc (take seen b) (drop seen b) y) ∙ ap (λ z. z ++ y) (take-append-drop seen b))

-- a byte more is looked at behind CR
end_looks : (seen xs : List ℕ) (c : ℕ) → line_end_behind seen (xs ++ c ∷ []) ≡ unfinished → ⊥
unfolding byte_at
end_looks seen [] c e = by_lf (c == 10) refl
  where
    by_lf : (t : Bool) → (c == 10) ≡ t → ⊥
    by_lf true f = let g = rw f at e in cc
    by_lf false f = let g = rw f at e in cc
end_looks seen (x ∷ xs) c e = by_lf (x == 10) refl
  where
    by_lf : (t : Bool) → (x == 10) ≡ t → ⊥
    by_lf true f = let g = rw f at e in cc
    by_lf false f = let g = rw f at e in cc

-- all bytes of an unfinished line but the last one
looked_at : (acc xs : List ℕ) (c : ℕ) → length acc ≤ max_line → text_at acc (xs ++ c ∷ []) ≡ unfinished → ((y : List ℕ) → text_at (acc ++ xs) y ≡ text_at acc (xs ++ y)) × (length (acc ++ xs) ≤ max_line)
looked_at acc [] c few e = ((λ y. ap (λ z. text_at z y) (append-nil acc)), omega (arith, ap length (append-nil acc), few))
looked_at acc (x ∷ xs) c few e =
    elim (text_step acc x few) [
      | stops r p ↦ let f = p (xs ++ c ∷ []) in cc
      | ends x_is p ↦ absurd (end_looks acc xs c (sym (p (xs ++ c ∷ [])) ∙ e))
      | goes t less p ↦
          let q = looked_at (acc ++ x ∷ []) xs c (omega (arith, length-append acc (x ∷ []))) (sym (p (xs ++ c ∷ [])) ∙ e) in (
            (λ y. ap (λ z. text_at z y) (sym (append_assoc acc (x ∷ []) xs)) ∙ q.0 y ∙ sym (p (xs ++ y))),
            omega (arith, q.1, ap length (append_assoc acc (x ∷ []) xs)),
          )
    ]

last_of : (v : ℕ) (b : List ℕ) → suc v ≤ length b → (c : ℕ) × (take (suc v) b ≡ take v b ++ c ∷ [])
last_of v [] h = absurd (omega arith)
last_of zero (x ∷ xs) h = (x, refl)
last_of (suc v) (x ∷ xs) h = let q = last_of v xs (omega arith) in (q.0, ap (λ z. x ∷ z) q.1)

-- what need not be looked at again of an unfinished line
pub seen_but_last : (v : ℕ) (b : List ℕ) → v ≤ length b → text_at [] (take v b) ≡ unfinished → IsSeen (v - 1) b
seen_but_last zero b h e = none_seen b
seen_but_last (suc v) b h e =
    let q = last_of v b h in
    let l = looked_at [] (take v b) q.0 (omega arith) (ap (text_at []) (sym q.1) ∙ e) in
    let p : suc v - 1 ≡ v = omega arith in
    subst (λ (z : ℕ). IsSeen z b) (sym p) (record { inside = omega (arith, h); few = omega (arith, l.1, length-take v b, h); same = l.0 })

-- of the bytes that are visible so many were looked at
pub seen_visible : (seen v : ℕ) (b : List ℕ) → seen ≤ v → v ≤ length b → IsSeen seen b → IsSeen seen (take v b)
seen_visible seen v b few inside s = record {
  inside = omega (arith, few, length-take v b, inside);
  few = s.few;
  same = rw (take_of_take seen v b few) s.same;
}
