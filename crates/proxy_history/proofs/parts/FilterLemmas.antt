-- What a filter keeps passes its test.
use Rattle.std.proofs.Common.{◌≡◌, Bool, true, false, not, ◌&&◌, ℕ, List, [], ◌∷◌, filter, inl, inr}
use Rattle.std.proofs.lemmas.Bool.{cases_Bool, and_parts, not-true}
use Rattle.std.specs.List.{list_any}
use Rattle.proxy_history.specs.History.{epoch, is_closed}
use Rattle.proxy_history.specs.Part.{Past, Part, is_of, is_same}
use Rattle.proxy_history.specs.Waiting.{waits}

abbrev pub AreGood : (Part → Bool) → List Part → Type 0
AreGood good [] = Unit {0}
AreGood good (p ∷ ps) = (good p ≡ true) × AreGood good ps

pub filter_is_good : (good : Part → Bool) (ps : List Part) → AreGood good (filter good ps)
filter_is_good good [] = tt
filter_is_good good (p ∷ ps) = elim (cases_Bool (good p)) [
  | inl t ↦ rw (t) (t, filter_is_good good ps)
  | inr f ↦ rw (f) (filter_is_good good ps)
]

-- who waits is of the present epoch, was not sent, and its connection is open
pub waits_parts : (h : ℕ) (x : Past) (p : Part) → waits h x p ≡ true
    → (is_of h (epoch h x.steps) p ≡ true) × (list_any (is_same p) x.sent ≡ false) × (is_closed p.conn x.steps ≡ false)
waits_parts h x p e =
    let here = is_of h (epoch h x.steps) p in
    let was_sent = list_any (is_same p) x.sent in
    let a = and_parts (here && not was_sent) (not (is_closed p.conn x.steps)) e in
    let b = and_parts here (not was_sent) a.0 in
    (b.0, not-true was_sent b.1, not-true (is_closed p.conn x.steps) a.1)
