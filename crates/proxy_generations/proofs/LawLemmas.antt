-- What follows from each history.
use Rattle.std.proofs.Common.{◌≡◌, ◌⊎◌, ◌↔◌, ◌<◌, ◌≤◌, ◌+◌, ◌==◌, ◌++◌, ℕ, zero, suc, Bool, true, not, Option, Some, None, option_to_list, unwrap_or, List, [], ◌∷◌, length, filter, Contains, All, AllPairs, inl, inr, refl, ap, arith}
use Rattle.std.specs.Prelude.{IsSome, slice_get, nat_lt}
use Rattle.proxy_generations.specs.Events.{Event, Taken, Opened, Failed, Near, Full, Renewed, Progressed, Drained, Swept, newest, draining, in_the_way, has_connections, is_asked, near_since}
use Rattle.proxy_generations.specs.History.{IsHistory, IsStill, HasRoom}
use Rattle.proxy_generations.specs.Laws.{OpensInTurn, CameNear, CameFull, IsOldest, opened_since}
use Rattle.limits.specs.declared.journals.TheConstants.{MAX_GENERATIONS}
use Rattle.proxy_generations.specs.declared.older.TheConstants.{MAX_DRAINING}
use Rattle.proxy_generations.proofs.HistoryLemmas.{ordered, same, room_once_drained}
use Rattle.proxy_generations.proofs.ConnectionLemmas.{connected, connects}
use Rattle.proxy_generations.proofs.OlderLemmas.{full_first, first_none, first_in, length_filter}
use Rattle.std.proofs.lemmas.Bool.{lt-ltb, le-ltb, cases_eq, cases_Bool, cond-true, cond-false, ne_eqb}
use Rattle.std.proofs.lemmas.List.{length-append}
use Rattle.std.proofs.lemmas.List.Elements.{All-head, All-tail, All-push, All-weaker, filter-append}
use Rattle.std.proofs.lemmas.Option.{get_or_from_slice_get}

-- how many of these numbers are above one
abbrev above : ℕ → List ℕ → ℕ
above n xs = length (filter (λ m. nat_lt n m) xs)

above_push : (n m : ℕ) (xs : List ℕ) → above n (xs ++ m ∷ []) ≤ above n xs + 1
above_push n m xs =
    let one = length_filter (λ k. nat_lt n k) (m ∷ []) in
    rw (filter-append (λ k. nat_lt n k) xs (m ∷ []))
    (omega (arith, length-append (filter (λ k. nat_lt n k) xs) (filter (λ k. nat_lt n k) (m ∷ []))))

above_none : (n : ℕ) (xs : List ℕ) → All (λ k. k ≤ n) xs → above n xs ≡ 0
above_none n [] all = refl
above_none n (x ∷ xs) all =
    let is = le-ltb n x (All-head (λ k. k ≤ n) x xs all) in
    rw (cond-false (nat_lt n x) (x ∷ filter (λ k. nat_lt n k) xs) (filter (λ k. nat_lt n k) xs) is)
    (above_none n xs (All-tail (λ k. k ≤ n) x xs all))

above_all : (n : ℕ) (xs : List ℕ) → All (λ k. n < k) xs → above n xs ≡ length xs
above_all n [] all = refl
above_all n (x ∷ xs) all =
    let is = lt-ltb n x (All-head (λ k. n < k) x xs all) in
    rw (cond-true (nat_lt n x) (x ∷ filter (λ k. nat_lt n k) xs) (filter (λ k. nat_lt n k) xs) is)
    (ap suc (above_all n xs (All-tail (λ k. n < k) x xs all)))

-- a number is passed on or left out
above_more : (n x : ℕ) (xs ys : List ℕ) → above n xs ≤ above n ys → above n (x ∷ xs) ≤ above n (x ∷ ys)
above_more n x xs ys le = elim (cases_Bool (nat_lt n x)) [
  | inl is ↦
      rw (
        cond-true (nat_lt n x) (x ∷ filter (λ k. nat_lt n k) xs) (filter (λ k. nat_lt n k) xs) is,
        cond-true (nat_lt n x) (x ∷ filter (λ k. nat_lt n k) ys) (filter (λ k. nat_lt n k) ys) is,
      ) (omega arith)
  | inr is ↦
      rw (
        cond-false (nat_lt n x) (x ∷ filter (λ k. nat_lt n k) xs) (filter (λ k. nat_lt n k) xs) is,
        cond-false (nat_lt n x) (x ∷ filter (λ k. nat_lt n k) ys) (filter (λ k. nat_lt n k) ys) is,
      ) le
]

above_behind : (n x : ℕ) (ys : List ℕ) → above n ys ≤ above n (x ∷ ys)
above_behind n x ys = elim (cases_Bool (nat_lt n x)) [
  | inl is ↦ rw (cond-true (nat_lt n x) (x ∷ filter (λ k. nat_lt n k) ys) (filter (λ k. nat_lt n k) ys) is) (omega arith)
  | inr is ↦ rw (cond-false (nat_lt n x) (x ∷ filter (λ k. nat_lt n k) ys) (filter (λ k. nat_lt n k) ys) is) (omega arith)
]

above_filter : (n : ℕ) (p : ℕ → Bool) (xs ys : List ℕ) → above n (filter p xs ++ ys) ≤ above n (xs ++ ys)
above_filter n p [] ys = omega arith
above_filter n p (x ∷ xs) ys = elim (cases_Bool (p x)) [
  | inl is ↦
      rw (cond-true (p x) (x ∷ filter p xs) (filter p xs) is)
      (above_more n x (filter p xs ++ ys) (xs ++ ys) (above_filter n p xs ys))
  | inr is ↦
      let rest = above_filter n p xs ys in
      let more = above_behind n x (xs ++ ys) in
      rw (cond-false (p x) (x ∷ filter p xs) (filter p xs) is) (omega arith)
]

-- the first of numbers in order
at_least : (n : ℕ) (xs : List ℕ) → slice_get xs 0 ≡ Some n → AllPairs (λ x y. x < y) xs → All (λ m. n ≤ m) xs
at_least n xs e rises zero d less = let first = get_or_from_slice_get xs 0 n d e in omega arith
at_least n xs e rises (suc k) d less =
    let first = get_or_from_slice_get xs 0 n d e in
    let later = rises 0 (suc k) d (omega arith) less in omega arith

-- all others are above it
above_first : (n m : ℕ) (xs : List ℕ) → slice_get xs 0 ≡ Some n → AllPairs (λ x y. x < y) xs → All (λ k. k < m) xs
    → length xs ≤ above n (xs ++ m ∷ [])
above_first n m [] e rises below = absurd cc
above_first n m (x ∷ xs) e rises below =
    let is : x ≡ n = same x n e in
    let first : n < m = rw (← is) (All-head (λ k. k < m) x xs below) in
    let later : All (λ k. n < k) xs = λ k d less. rw (← is) (rises 0 (suc k) d (omega arith) (omega arith)) in
    let all = above_all n (xs ++ m ∷ []) (All-push (λ k. n < k) xs m later first) in
    let long = length-append xs (m ∷ []) in
    let behind = above_behind n x (xs ++ m ∷ []) in omega arith

module _ {H : Type 0} where
  pub open_have_connections : (es : List (Event H)) → IsHistory es → (n : ℕ)
      → (has_connections n es ≡ true) ↔ ((newest es ≡ Some n) ⊎ Contains (draining es) n)
  open_have_connections es h n = (connected es h n, connects es h n)

  pub few_drain : (es : List (Event H)) → IsHistory es → length (draining es) + 1 ≤ MAX_GENERATIONS
  few_drain es h = let few = (ordered es h).few in omega arith

  pub drain_in_order : (es : List (Event H)) → IsHistory es
      → AllPairs (λ m n. m < n) (draining es) × ((n : ℕ) → newest es ≡ Some n → All (λ m. m < n) (draining es))
  drain_in_order es h = ((ordered es h).rises, (ordered es h).older)

  pub opens_in_turn : (es : List (Event H)) (n now : ℕ) → IsHistory (Opened n now ∷ es) → OpensInTurn n es
  opens_in_turn es n now (may, h) =
      let order = ordered es h in
      let is = order.opens n may in
      record { is_asked = is.1; number = is.0; is_above = λ m e. rw is.0 (order.fresh m e is.1); has_room = is.2 }

  opened_above_at : (n m t : ℕ) (es : List (Event H)) → IsHistory (Opened m t ∷ es)
      → above n (draining es ++ option_to_list (newest es)) ≤ opened_since n es
      → above n ((draining es ++ option_to_list (newest es)) ++ m ∷ []) ≤ opened_since n (Opened m t ∷ es)
  opened_above_at n m t es h before = elim (cases_eq m n) [
    | inl is ↦
        let below = All-weaker (λ k. k < m) (λ k. k ≤ n) (λ k b. omega arith) (draining es ++ option_to_list (newest es))
        ((ordered (Opened m t ∷ es) h).older m refl) in
        let none = above_none n ((draining es ++ option_to_list (newest es)) ++ m ∷ [])
        (All-push (λ k. k ≤ n) (draining es ++ option_to_list (newest es)) m below (omega arith)) in
        omega arith
    | inr differs ↦
        let more = above_push n m (draining es ++ option_to_list (newest es)) in
        rw (cond-false (m == n) 0 (opened_since n es + 1) (ne_eqb m n differs)) (omega arith)
  ]

  -- those above a generation opened since that did
  opened_above : (es : List (Event H)) → IsHistory es → (n : ℕ) → above n (draining es ++ option_to_list (newest es)) ≤ opened_since n es
  opened_above [] h n = omega arith
  opened_above (Taken m ∷ es) (may, h) n = opened_above es h n
  opened_above (Opened m t ∷ es) (may, h) n = opened_above_at n m t es (may, h) (opened_above es h n)
  opened_above (Failed m ∷ es) (may, h) n = opened_above es h n
  opened_above (Near m t ∷ es) (may, h) n = opened_above es h n
  opened_above (Full m t x ∷ es) (may, h) n = opened_above es h n
  opened_above (Renewed m x ∷ es) (may, h) n = opened_above es h n
  opened_above (Progressed m t ∷ es) (may, h) n = opened_above es h n
  opened_above (Drained m ∷ es) (may, h) n =
      let before = opened_above es h n in
      let fewer = above_filter n (λ k. not (m == k)) (draining es) (option_to_list (newest es)) in omega arith
  opened_above (Swept m t ∷ es) (may, h) n = opened_above es h n

  all_opened : (es : List (Event H)) → IsHistory es → (n : ℕ) (o : Option ℕ) → newest es ≡ o → slice_get (draining es) 0 ≡ Some n
      → MAX_DRAINING ≤ length (draining es) → MAX_GENERATIONS ≤ opened_since n es + 1
  all_opened es h n None is first full =
      absurd (let none = (ordered es h).first is in let short = ap length none in omega arith)
  all_opened es h n (Some m) is first full =
      let order = ordered es h in
      let many = above_first n m (draining es) first order.rises (order.older m is) in
      let opened : above n (draining es ++ m ∷ []) ≤ opened_since n es = rw is at (opened_above es h n) in omega arith

  pub oldest_is_in_the_way : (es : List (Event H)) → IsHistory es → (n : ℕ) → in_the_way es ≡ Some n → IsOldest n es
  oldest_is_in_the_way es h n e =
      let full = full_first (draining es) n e in
      let order = ordered es h in
      let few = order.few in record {
        drains = first_in (draining es) n e;
        is_first = at_least n (draining es) full.1 order.rises;
        are_full = let least = full.0 in omega arith;
        have_opened = let least = full.0 in all_opened es h n (newest es) refl full.1 least;
      }

  -- none is in the way where one more may drain
  room_no_way : (es : List (Event H)) (n : ℕ) → HasRoom es → in_the_way es ≡ Some n → ⊥
  room_no_way es n room e = let none = first_none (draining es) room in absurd cc

  drained_no_way : (m n : ℕ) (es : List (Event H)) → IsHistory es → Contains (draining es) m → in_the_way (Drained m ∷ es) ≡ Some n → ⊥
  drained_no_way m n es h may e = room_no_way (Drained m ∷ es) n (room_once_drained es h m may) e

  -- one event more
  near_later : (e : Event H) (n since : ℕ) (es : List (Event H)) → CameNear n since es → CameNear n since (e ∷ es)
  near_later e n since es came = record {
    by = came.by;
    later = e ∷ came.later;
    earlier = came.earlier;
    are = ap (λ l. e ∷ l) came.are;
    by_newest = came.by_newest;
    was_in_the_way = came.was_in_the_way;
    is_still = came.is_still;
  }

  -- at the event that says so
  near_at : (m t n since : ℕ) (es : List (Event H)) (before : Option ℕ) → near_since es ≡ before
      → (near_since es ≡ Some since → CameNear n since es) → newest es ≡ Some m → in_the_way es ≡ Some n
      → HasRoom es ⊎ IsStill es t → Some (unwrap_or before t) ≡ Some since → CameNear n since (Near m t ∷ es)
  near_at m t n since es None is earlier may d (inl room) e = absurd (room_no_way es n room d)
  near_at m t n since es None is earlier may d (inr still) e =
      let at : t ≡ since = same t since e in record {
        by = m;
        later = [];
        earlier = es;
        are = ap (λ x. Near m x ∷ es) at;
        by_newest = may;
        was_in_the_way = d;
        is_still = rw at at still;
      }
  near_at m t n since es (Some first) is earlier may d still e = near_later (Near m t) n since es (earlier cc)

  pub given_up_if_near : (es : List (Event H)) → IsHistory es → (n since : ℕ) → in_the_way es ≡ Some n → near_since es ≡ Some since
      → CameNear n since es
  given_up_if_near [] h n since d near = absurd cc
  given_up_if_near (Taken m ∷ es) (may, h) n since d near = near_later (Taken m) n since es (given_up_if_near es h n since d near)
  given_up_if_near (Opened m t ∷ es) (may, h) n since d near = absurd cc
  given_up_if_near (Failed m ∷ es) (may, h) n since d near = near_later (Failed m) n since es (given_up_if_near es h n since d near)
  given_up_if_near (Near m t ∷ es) ((may, still), h) n since d near =
      near_at m t n since es (near_since es) refl (λ e. given_up_if_near es h n since d e) may d still near
  given_up_if_near (Full m t x ∷ es) (may, h) n since d near =
      near_later (Full m t x) n since es (given_up_if_near es h n since d near)
  given_up_if_near (Renewed m x ∷ es) (may, h) n since d near =
      near_later (Renewed m x) n since es (given_up_if_near es h n since d near)
  given_up_if_near (Progressed m t ∷ es) (may, h) n since d near =
      near_later (Progressed m t) n since es (given_up_if_near es h n since d near)
  given_up_if_near (Drained m ∷ es) (may, h) n since d near = absurd (drained_no_way m n es h may d)
  given_up_if_near (Swept m t ∷ es) (may, h) n since d near =
      near_later (Swept m t) n since es (given_up_if_near es h n since d near)

  full_later : (e : Event H) (n : ℕ) (es : List (Event H)) → CameFull n es → CameFull n (e ∷ es)
  full_later e n es came = record {
    by = came.by;
    now = came.now;
    handover = came.handover;
    later = e ∷ came.later;
    earlier = came.earlier;
    are = ap (λ l. e ∷ l) came.are;
    by_newest = came.by_newest;
    was_in_the_way = came.was_in_the_way;
    since = came.since;
    near = came.near;
    gave_up = came.gave_up;
  }

  pub stops_if_full : (es : List (Event H)) → IsHistory es → (n : ℕ) → in_the_way es ≡ Some n → is_asked es ≡ true → CameFull n es
  stops_if_full [] h n d asked = absurd cc
  stops_if_full (Taken m ∷ es) (may, h) n d asked = full_later (Taken m) n es (stops_if_full es h n d asked)
  stops_if_full (Opened m t ∷ es) (may, h) n d asked = absurd cc
  stops_if_full (Failed m ∷ es) (may, h) n d asked = absurd cc
  stops_if_full (Near m t ∷ es) (may, h) n d asked = full_later (Near m t) n es (stops_if_full es h n d asked)
  stops_if_full (Full m t x ∷ es) ((is, unasked, room, had), h) n d asked = elim had [
    | inl none ↦ absurd (room_no_way es n none d)
    | inr (since, near, long) ↦ record {
      by = m;
      now = t;
      handover = x;
      later = [];
      earlier = es;
      are = refl;
      by_newest = is;
      was_in_the_way = d;
      since = since;
      near = given_up_if_near es h n since d near;
      gave_up = long;
    }
  ]
  stops_if_full (Renewed m x ∷ es) (may, h) n d asked = full_later (Renewed m x) n es (stops_if_full es h n d asked)
  stops_if_full (Progressed m t ∷ es) (may, h) n d asked = full_later (Progressed m t) n es (stops_if_full es h n d asked)
  stops_if_full (Drained m ∷ es) (may, h) n d asked = absurd (drained_no_way m n es h may d)
  stops_if_full (Swept m t ∷ es) (may, h) n d asked = full_later (Swept m t) n es (stops_if_full es h n d asked)

  pub one_is_open : (later earlier : List (Event H)) (n now : ℕ) → IsSome (newest (later ++ Opened n now ∷ earlier))
  one_is_open [] earlier n now = refl
  one_is_open (Taken m ∷ later) earlier n now = one_is_open later earlier n now
  one_is_open (Opened m t ∷ later) earlier n now = refl
  one_is_open (Failed m ∷ later) earlier n now = one_is_open later earlier n now
  one_is_open (Near m t ∷ later) earlier n now = one_is_open later earlier n now
  one_is_open (Full m t x ∷ later) earlier n now = one_is_open later earlier n now
  one_is_open (Renewed m x ∷ later) earlier n now = one_is_open later earlier n now
  one_is_open (Progressed m t ∷ later) earlier n now = one_is_open later earlier n now
  one_is_open (Drained m ∷ later) earlier n now = one_is_open later earlier n now
  one_is_open (Swept m t ∷ later) earlier n now = one_is_open later earlier n now
