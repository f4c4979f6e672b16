-- What holds of each history.
use Rattle.std.proofs.Common.{◌≡◌, ◌<◌, ◌≤◌, ◌==◌, ◌++◌, ℕ, true, not, Option, Some, None, option_to_list, List, [], ◌∷◌, length, filter, Contains, All, AllPairs, refl, sym, arith}
use Rattle.std.proofs.lemmas.List.{append-nil}
use Rattle.std.proofs.lemmas.List.Elements.{All-nil, All-push, All-weaker, All-filter, All-get_or}
use Rattle.std.proofs.lemmas.List.Kept.{AllPairs-filter}
use Rattle.std.proofs.lemmas.List.Quantifiers.{all_pairs_push}
use Rattle.proxy_generations.specs.Events.{Event, Taken, Opened, Failed, Near, Full, Renewed, Progressed, Drained, Swept, newest, draining, is_asked, last_number, asker, opening}
use Rattle.proxy_generations.specs.History.{IsHistory, HasRoom}
use Rattle.proxy_generations.specs.declared.older.TheConstants.{MAX_DRAINING}
use Rattle.proxy_generations.proofs.OlderLemmas.{length_filter, length_option, shorter}

-- one number
pub same : (n m : ℕ) → Some n ≡ Some m → n ≡ m
same n m e = cc

-- those that drain once the newest does, below the next number and in order
below_pushed : (n : ℕ) (o : Option ℕ) (xs : List ℕ) → (o ≡ None → xs ≡ []) → ((m : ℕ) → o ≡ Some m → m < n)
    → ((m : ℕ) → o ≡ Some m → All (λ k. k < m) xs) → All (λ k. k < n) (xs ++ option_to_list o)
below_pushed n None xs none less all = rw (none refl) (All-nil (λ k. k < n))
below_pushed n (Some m) xs none less all =
    let last = less m refl in
    All-push (λ k. k < n) xs m (All-weaker (λ k. k < m) (λ k. k < n) (λ k b. omega arith) xs (all m refl)) last

rises_pushed : (o : Option ℕ) (xs : List ℕ) → ((m : ℕ) → o ≡ Some m → All (λ k. k < m) xs) → AllPairs (λ x y. x < y) xs
    → AllPairs (λ x y. x < y) (xs ++ option_to_list o)
rises_pushed None xs all rises = rw (append-nil xs) rises
rises_pushed (Some m) xs all rises =
    all_pairs_push (λ x y. x < y) xs m rises (λ k d less. All-get_or (λ k. k < m) xs k d less (all m refl))

module _ {H : Type 0} where
  -- the numbers of a history's generations, in order, and who handed over last
  pub record IsOrdered (es : List (Event H)) : Type 0 where
    pub below : (n : ℕ) → newest es ≡ Some n → n ≤ last_number es
    pub fresh : (n : ℕ) → newest es ≡ Some n → is_asked es ≡ true → n < last_number es
    pub opens : (n : ℕ) → opening es ≡ Some n → (n ≡ last_number es) × (is_asked es ≡ true) × HasRoom es
    pub older : (m : ℕ) → newest es ≡ Some m → All (λ k. k < m) (draining es)
    pub first : newest es ≡ None → draining es ≡ []
    pub rises : AllPairs (λ x y. x < y) (draining es)
    pub few : length (draining es) ≤ MAX_DRAINING
    pub by_newest : is_asked es ≡ true → asker es ≡ newest es

  pub ordered : (es : List (Event H)) → IsHistory es → IsOrdered es
  ordered [] h = record {
    below = λ n e. absurd cc;
    fresh = λ n e a. absurd cc;
    opens = λ n e. absurd cc;
    older = λ m e. absurd cc;
    first = λ e. refl;
    rises = λ i j d less within. absurd (omega arith);
    few = omega arith;
    by_newest = λ a. refl;
  }
  ordered (Taken n ∷ es) ((is, asked, none, room), h) =
      let o = ordered es h in record {
        below = o.below;
        fresh = o.fresh;
        opens = λ k e. (let s = same n k e in cc, asked, room);
        older = o.older;
        first = o.first;
        rises = o.rises;
        few = o.few;
        by_newest = o.by_newest;
      }
  ordered (Opened n t ∷ es) (may, h) =
      let o = ordered es h in
      let is = o.opens n may in record {
        below = λ k e. let s = same n k e in omega (arith, is.0);
        fresh = λ k e a. absurd cc;
        opens = λ k e. absurd cc;
        older = λ m e.
            let s : n ≡ m = same n m e in
            rw (← s) (below_pushed n (newest es) (draining es) o.first (λ k f. let b = o.fresh k f is.1 in omega (arith, is.0)) o.older);
        first = λ e. absurd cc;
        rises = rises_pushed (newest es) (draining es) o.older o.rises;
        few = let room = is.2 in omega (arith, length_option (newest es) (draining es));
        by_newest = λ a. absurd cc;
      }
  ordered (Failed n ∷ es) (may, h) =
      let o = ordered es h in record {
        below = o.below;
        fresh = λ k e a. absurd cc;
        opens = λ k e. absurd cc;
        older = o.older;
        first = o.first;
        rises = o.rises;
        few = o.few;
        by_newest = λ a. absurd cc;
      }
  ordered (Near n t ∷ es) ((may, still), h) =
      let o = ordered es h in record {
        below = o.below;
        fresh = o.fresh;
        opens = o.opens;
        older = o.older;
        first = o.first;
        rises = o.rises;
        few = o.few;
        by_newest = o.by_newest;
      }
  ordered (Full n t x ∷ es) ((is, unasked, room, had), h) =
      let o = ordered es h in record {
        below = λ k e. let b = o.below k e in omega arith;
        fresh = λ k e a. let b = o.below k e in omega arith;
        opens = λ k e. absurd (let a = (o.opens k e).1 in cc);
        older = o.older;
        first = o.first;
        rises = o.rises;
        few = o.few;
        by_newest = λ a. sym is;
      }
  ordered (Renewed n x ∷ es) ((is, asked, none), h) =
      let o = ordered es h in record {
        below = o.below;
        fresh = o.fresh;
        opens = o.opens;
        older = o.older;
        first = o.first;
        rises = o.rises;
        few = o.few;
        by_newest = λ a. sym is;
      }
  ordered (Progressed n t ∷ es) (may, h) =
      let o = ordered es h in record {
        below = o.below;
        fresh = o.fresh;
        opens = o.opens;
        older = o.older;
        first = o.first;
        rises = o.rises;
        few = o.few;
        by_newest = o.by_newest;
      }
  ordered (Drained n ∷ es) (may, h) =
      let o = ordered es h in
      let fewer = length_filter (λ m. not (n == m)) (draining es) in record {
        below = o.below;
        fresh = o.fresh;
        opens = λ k e. let a = o.opens k e in let room = a.2 in (a.0, a.1, omega arith);
        older = λ m e. All-filter (λ k. not (n == k)) (λ k. k < m) (draining es) (o.older m e);
        first = λ e. rw (o.first e) refl;
        rises = AllPairs-filter (λ x y. x < y) (λ k. not (n == k)) (draining es) o.rises;
        few = let were = o.few in omega arith;
        by_newest = o.by_newest;
      }
  ordered (Swept n t ∷ es) (may, h) =
      let o = ordered es h in record {
        below = o.below;
        fresh = o.fresh;
        opens = o.opens;
        older = o.older;
        first = o.first;
        rises = o.rises;
        few = o.few;
        by_newest = o.by_newest;
      }

  -- once one has drained, one more may
  pub room_once_drained : (es : List (Event H)) → IsHistory es → (n : ℕ) → Contains (draining es) n
      → length (filter (λ m. not (n == m)) (draining es)) < MAX_DRAINING
  room_once_drained es h n may = let few = (ordered es h).few in omega (arith, shorter n (draining es) may)
