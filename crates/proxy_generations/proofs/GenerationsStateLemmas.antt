-- How calls keep what `Generations` knows.
use Rattle.std.proofs.Common.{◌≡◌, ◌⊎◌, ◌↔◌, ◌<◌, ◌≤◌, ◌+◌, ◌-◌, ◌^◌, ◌==◌, ◌++◌, ℕ, Bool, true, false, not, Option, Some, None, unwrap_or, option_to_list, is_some, IfSome, IsNone, List, [], ◌∷◌, length, map, filter, Contains, All, inl, inr, refl, sym, ap, subst, arith}
use Rattle.std.proofs.lemmas.Bool.{eq-eqb, ne_eqb, cases_eq, cases_Bool}
use Rattle.std.proofs.lemmas.List.{length-map, map-append}
use Rattle.std.proofs.lemmas.List.Elements.{All-head, All-tail, All-map, All-contains, All-contains_itself}
use Rattle.std.specs.Prelude.{IsSome}
use Rattle.proxy_generations.specs.Events.{Event, Opened, Failed, Near, Full, Renewed, Progressed, Drained, Swept, newest, draining, in_the_way, has_connections, is_asked, near_since, failures, handover, last_number, last_sweep, opening}
use Rattle.proxy_generations.specs.History.{MayHappen, IsHistory, HasRoom, HasGivenUp, IsStill}
use Rattle.proxy_generations.specs.GenerationsState.{Settings, Stands, Tells, open_of, kept_of, next_of}
use Rattle.proxy_generations.specs.OpenGenerations.{IsNumber, KeepsRoom, HadTime, MayBeLeft}
use Rattle.proxy_generations.specs.Older.{numbers_of, first_if_full, swept_at}
use Rattle.proxy_generations.specs.declared.older.Older.{Older}
use Rattle.proxy_generations.specs.declared.opened.Open.{Open}
use Rattle.proxy_generations.specs.declared.lifecycle.NextGeneration.TheVariants.{Unasked, Wanted, Opening}
use Rattle.proxy_generations.specs.declared.lifecycle.Generations.{Generations}
use Rattle.proxy_generations.proofs.HistoryLemmas.{IsOrdered, ordered}
use Rattle.proxy_generations.proofs.OlderLemmas.{first_none, first_in}
use Rattle.proxy_generations.proofs.ConnectionLemmas.{connected, connects, apart, not_gone, gone}
use Rattle.std.specs.Option.{SomeIff}
use Rattle.proxy_generations.specs.Phase.{IsPhase, IsAbove, IsTask}
use Rattle.proxy_generations.specs.declared.phase.Phase.{Phase}
use Rattle.proxy_generations.specs.declared.phase.Phase.TheVariants.{Unopened, Serving, Draining, GivingUp, Stopped}

same_kept : (a b : Open) → Some a ≡ Some b → a ≡ b
same_kept a b e = cc

-- the newest one isn't above itself, nor is one below it
newest_is_not_above : (o : Option ℕ) (n : ℕ) → o ≡ Some n → IsAbove o n → ⊥
newest_is_not_above None n e above = absurd cc
newest_is_not_above (Some m) n e above = let is : m ≡ n = cc in omega arith

pub below_it : (o : Option ℕ) (m n : ℕ) → o ≡ Some m → n < m → IsAbove o n → ⊥
below_it None m n e less above = absurd cc
below_it (Some k) m n e less above = let is : k ≡ m = cc in omega arith

-- one is above the newest where there is none, or where it is neither that nor below it
pub above_it : (o : Option ℕ) (n : ℕ) → ((m : ℕ) → o ≡ Some m → m < n) → IsAbove o n
above_it None n less = tt
above_it (Some m) n less = less m refl

-- an empty list contains nothing
in_none : (n : ℕ) → Contains [] n → ⊥
in_none n (k, less, e) = absurd (omega arith)

-- what `is_none` says
pub none_from : (o : Option Open) (b : Bool) → is_some o ≡ not b → b ≡ true → o ≡ None
none_from None b e is = refl
none_from (Some x) b e is = absurd cc

pub none_to : (o : Option Open) (b : Bool) → is_some o ≡ not b → o ≡ None → b ≡ true
none_to None true e is = refl
none_to None false e is = absurd cc
none_to (Some x) b e is = absurd cc

-- what `is_some` says
pub none_otherwise : (o : Option ℕ) (b : Bool) → b ≡ is_some o → b ≡ false → o ≡ None
none_otherwise None b e is = refl
none_otherwise (Some x) b e is = absurd cc

module _ {H : Type 0} where
  -- a call that counts nowhere, and changes nothing
  pub tells_nothing : (e : Event H) (m : Generations H) → ((s : Settings) (es : List (Event H)) → Stands m s es → ¬ MayHappen e es)
      → Tells e m m
  tells_nothing e m never = record {
    counts = λ s es st may. absurd (never s es st may);
    ignored = λ s es st no. refl;
  }

  -- a call that always counts
  pub tells_it : (e : Event H) (m k : Generations H)
      → ((s : Settings) (es : List (Event H)) → Stands m s es → MayHappen e es × Stands k s (e ∷ es)) → Tells e m k
  tells_it e m k always = record {
    counts = λ s es st may. (always s es st).1;
    ignored = λ s es st no. absurd (no (always s es st).0);
  }

  next-opening : (asked : Bool) (number : Option ℕ) (from : Option H) → next_of asked number from ≡ Opening
      → (asked ≡ true) × ((n : ℕ) × (number ≡ Some n))
  next-opening false number from e = absurd cc
  next-opening true None from e = absurd cc
  next-opening true (Some n) from e = (refl, (n, refl))

  next-unasked : (asked : Bool) (number : Option ℕ) (from : Option H) → next_of asked number from ≡ Unasked → asked ≡ false
  next-unasked false number from e = refl
  next-unasked true None from e = absurd cc
  next-unasked true (Some n) from e = absurd cc

  -- the one being opened, as it is kept
  pub opening_is : (m : Generations H) (s : Settings) (es : List (Event H)) (number : ℕ) → Stands m s es
      → m.next ≡ Opening → number ≡ m.asked → opening es ≡ Some number
  opening_is m s es number st next is =
      let (asked, (n, o)) = next-opening (is_asked es) (opening es) (handover es) (let e = st.next_is in cc) in
      let number_is = ((ordered es st.may).opens n o).0 in
      let asked_is = st.asked_is in cc

  pub is_opening : (m : Generations H) (s : Settings) (es : List (Event H)) (number : ℕ) → Stands m s es
      → opening es ≡ Some number → (m.next ≡ Opening) × (number ≡ m.asked)
  is_opening m s es number st o =
      let is = (ordered es st.may).opens number o in
      let next_is = st.next_is in
      let next : next_of (is_asked es) (opening es) (handover es) ≡ Opening = rw (is.1, o) in
      let asked_is = st.asked_is in
      (cc, cc)

  not_opening_at : (o : Option ℕ) (es : List (Event H)) → IsOrdered es → opening es ≡ o → is_asked es ≡ false → o ≡ None
  not_opening_at None es order e unasked = refl
  not_opening_at (Some n) es order e unasked = absurd (let asked = (order.opens n e).1 in cc)

  -- none is being opened where none is asked for
  not_opening : (es : List (Event H)) → IsHistory es → is_asked es ≡ false → opening es ≡ None
  not_opening es h unasked = not_opening_at (opening es) es (ordered es h) refl unasked

  sweep_is : (es : List (Event H)) (n swept : ℕ) → Some (record { number = n; swept = swept }) ≡ open_of es (Some n)
      → swept ≡ last_sweep n es
  sweep_is es n swept e = ap (λ o. o.swept) (same_kept (record { number = n; swept = swept }) (record { number = n; swept = last_sweep n es }) e)

  -- those that drain, as they are kept: their numbers
  pub numbers_kept : (es : List (Event H)) (ns : List ℕ) → numbers_of (kept_of es ns) ≡ ns
  numbers_kept es [] = refl
  numbers_kept es (n ∷ ns) = ap (λ rest. n ∷ rest) (numbers_kept es ns)

  pub numbers_are : (m : Generations H) (s : Settings) (es : List (Event H)) → Stands m s es
      → numbers_of m.older.kept.items ≡ draining es
  numbers_are m s es st = rw st.older_is (numbers_kept es (draining es))

  pub room_is : (m : Generations H) (s : Settings) (es : List (Event H)) → Stands m s es → KeepsRoom m ↔ HasRoom es
  room_is m s es st =
      let long : length m.older.kept.items ≡ length (draining es) = rw st.older_is (length-map (draining es) _) in
      (λ less. omega arith, λ less. omega arith)

  -- which one is in the way
  pub way_is : (m : Generations H) (s : Settings) (es : List (Event H)) (n : ℕ) → Stands m s es
      → (first_if_full (numbers_of m.older.kept.items) ≡ Some n) ↔ (in_the_way es ≡ Some n)
  way_is m s es n st =
      let is : first_if_full (numbers_of m.older.kept.items) ≡ in_the_way es = ap first_if_full (numbers_are m s es st) in
      (λ e. cc, λ e. cc)

  -- which ones drain
  pub drains_is : (m : Generations H) (s : Settings) (es : List (Event H)) (n : ℕ) → Stands m s es
      → Contains (numbers_of m.older.kept.items) n ↔ Contains (draining es) n
  drains_is m s es n st = rw (numbers_are m s es st) (λ c. c, λ c. c)

  -- those with other numbers are kept as they were
  kept_opened : (n t : ℕ) (es : List (Event H)) (ns : List ℕ) → All (λ k. k < n) ns → kept_of (Opened n t ∷ es) ns ≡ kept_of es ns
  kept_opened n t es [] below = refl
  kept_opened n t es (k ∷ ns) below =
      let less = All-head (λ k. k < n) k ns below in
      let rest = kept_opened n t es ns (All-tail (λ k. k < n) k ns below) in
      rw (ne_eqb n k (λ is. omega arith)) (ap (λ l. record { number = k; swept = last_sweep k es } ∷ l) rest)

  kept_other : (n t : ℕ) (es : List (Event H)) (ns : List ℕ) → All (λ k. k < n) ns → kept_of (Swept n t ∷ es) ns ≡ kept_of es ns
  kept_other n t es [] below = refl
  kept_other n t es (k ∷ ns) below =
      let less = All-head (λ k. k < n) k ns below in
      let rest = kept_other n t es ns (All-tail (λ k. k < n) k ns below) in
      rw (ne_eqb n k (λ is. omega arith)) (ap (λ l. record { number = k; swept = last_sweep k es } ∷ l) rest)

  -- one that swept is kept with that
  kept_swept : (n t : ℕ) (es : List (Event H)) (ns : List ℕ) → kept_of (Swept n t ∷ es) ns ≡ map (swept_at n t) (kept_of es ns)
  kept_swept n t es [] = refl
  kept_swept n t es (k ∷ ns) =
      let rest = kept_swept n t es ns in elim (cases_eq n k) [
        | inl is ↦ rw (eq-eqb n k is, eq-eqb k n (sym is)) (rw (← is) (ap (λ l. record { number = n; swept = t } ∷ l) rest))
        | inr differs ↦
            rw (ne_eqb n k differs, ne_eqb k n (λ is. differs (sym is)))
            (ap (λ l. record { number = k; swept = last_sweep k es } ∷ l) rest)
      ]

  -- one that has drained isn't kept
  kept_filter : (n : ℕ) (es : List (Event H)) (ns : List ℕ)
      → kept_of es (filter (λ k. not (n == k)) ns) ≡ filter (λ o. not (n == o.number)) (kept_of es ns)
  kept_filter n es [] = refl
  kept_filter n es (k ∷ ns) =
      let rest = kept_filter n es ns in elim (cases_Bool (n == k)) [
        | inl is ↦ rw is rest
        | inr is ↦ rw is (ap (λ l. record { number = k; swept = last_sweep k es } ∷ l) rest)
      ]

  kept_option : (es : List (Event H)) (o : Option ℕ) → kept_of es (option_to_list o) ≡ option_to_list (open_of es o)
  kept_option es None = refl
  kept_option es (Some n) = refl

  -- the newest one joins those that drain
  kept_joined : (n t : ℕ) (es : List (Event H)) (kept after : List Open) (one : Option Open) → kept ≡ kept_of es (draining es)
      → one ≡ open_of es (newest es) → after ≡ kept ++ option_to_list one → All (λ k. k < n) (draining es ++ option_to_list (newest es))
      → after ≡ kept_of (Opened n t ∷ es) (draining es ++ option_to_list (newest es))
  kept_joined n t es kept after one are is joined below =
      let stay = kept_opened n t es (draining es ++ option_to_list (newest es)) below in
      let parts : kept_of es (draining es ++ option_to_list (newest es)) ≡ kept_of es (draining es) ++ kept_of es (option_to_list (newest es)) =
      map-append {B = Open} (λ k. record { number = k; swept = last_sweep k es }) (draining es) (option_to_list (newest es)) in
      let last = kept_option es (newest es) in cc

  pub stands_opened : (m : Generations H) (s : Settings) (es : List (Event H)) (n t swept : ℕ) (after : Older) → Stands m s es
      → opening es ≡ Some n → swept ≡ unwrap_or m.handed_sweep t
      → (KeepsRoom m → after.kept.items ≡ m.older.kept.items ++ option_to_list m.newest)
      → Stands (record m {
        tries_left = m.max_failures;
        newest = Some (record { number = n; swept = swept });
        older = after;
        near_since = None;
        still_since = Some t;
        drains_since = Some t;
        next = Unasked;
      }) s (Opened n t ∷ es)
  stands_opened m s es n t swept after st o is joined =
      let order = ordered es st.may in
      let opens = order.opens n o in
      let handed = st.handed_is in record {
        may = (o, st.may);
        interval_is = st.interval_is;
        most_is = st.most_is;
        tries_are = let most = st.most_is in omega arith;
        newest_is = rw (eq-eqb n n refl) (ap (λ x. Some (record { number = n; swept = x })) (rw (← handed) is));
        older_is =
            kept_joined n t es m.older.kept.items after.kept.items m.newest st.older_is st.newest_is
            (joined ((room_is m s es st).1 opens.2)) ((ordered (Opened n t ∷ es) (o, st.may)).older n refl);
        near_is = refl;
        still_is = refl;
        drains_is = refl;
        next_is = refl;
        asked_is = st.asked_is;
        handed_is = st.handed_is;
      }

  -- the number of an open one, as it is kept
  pub number_is : (es : List (Event H)) (o : Option ℕ) (kept : Option Open) (n : ℕ) → kept ≡ open_of es o
      → IsNumber kept n ↔ (o ≡ Some n)
  number_is es None None n e = (λ x. absurd x, λ x. absurd cc)
  number_is es None (Some kept) n e = absurd cc
  number_is es (Some k) None n e = absurd cc
  number_is es (Some k) (Some kept) n e = (λ x. cc, λ x. cc)

  pub stands_failed : (m : Generations H) (s : Settings) (es : List (Event H)) (n tries : ℕ) → Stands m s es
      → opening es ≡ Some n → tries ≡ m.tries_left - 1
      → Stands (record m { tries_left = tries; next = Unasked }) s (Failed n ∷ es)
  stands_failed m s es n tries st o is = record {
    may = (o, st.may);
    interval_is = st.interval_is;
    most_is = st.most_is;
    tries_are = let were = st.tries_are in omega arith;
    newest_is = st.newest_is;
    older_is = st.older_is;
    near_is = st.near_is;
    still_is = st.still_is;
    drains_is = st.drains_is;
    next_is = refl;
    asked_is = st.asked_is;
    handed_is = st.handed_is;
  }

  -- the last failure that is borne
  pub tries_end : (m : Generations H) (s : Settings) (es : List (Event H)) (tries : ℕ) → Stands m s es → tries ≡ m.tries_left - 1
      → (tries ≡ 0) ↔ (s.max_failures ≤ failures es + 1)
  tries_end m s es tries st is = let were = st.tries_are in (λ e. omega arith, λ b. omega arith)

  none_is : (es : List (Event H)) (o : Option ℕ) (kept : Option Open) → kept ≡ open_of es o → (kept ≡ None) ↔ (o ≡ None)
  none_is es None None e = (λ x. refl, λ x. refl)
  none_is es None (Some kept) e = absurd cc
  none_is es (Some k) None e = absurd cc
  none_is es (Some k) (Some kept) e = (λ x. absurd cc, λ x. absurd cc)

  -- none is open
  pub newest-none : (m : Generations H) (s : Settings) (es : List (Event H)) → Stands m s es → (m.newest ≡ None) ↔ (newest es ≡ None)
  newest-none m s es st = none_is es (newest es) m.newest st.newest_is

  -- nothing keeps a further one from being asked for
  pub had_time : (m : Generations H) (s : Settings) (es : List (Event H)) (now : ℕ) → Stands m s es
      → HadTime m now ↔ (HasRoom es ⊎ HasGivenUp es now)
  had_time m s es now st =
      let room = room_is m s es st in
      let near = st.near_is in (
        λ x. elim x [ inl e ↦ inl (room.0 e) | inr (since, e, long) ↦ inr (since, cc, long) ],
        λ x. elim x [ inl e ↦ inl (room.1 e) | inr (since, e, long) ↦ inr (since, cc, long) ],
      )

  pub stands_full : (m : Generations H) (s : Settings) (es : List (Event H)) (by now swept asked : ℕ) (from : H) → Stands m s es
      → m.next ≡ Unasked → m.newest ≡ Some (record { number = by; swept = swept }) → asked ≡ m.asked + 1 → asked < 2 ^ 64
      → HadTime m now
      → MayHappen (Full by now from) es
      × Stands (record m { next = Wanted (Some from); asked = asked; handed_sweep = Some swept }) s (Full by now from ∷ es)
  stands_full m s es by now swept asked from st next kept is fits had =
      let unasked = next-unasked (is_asked es) (opening es) (handover es) (let e = st.next_is in cc) in
      let newest_is = (number_is es (newest es) m.newest by st.newest_is).0 (rw kept refl) in
      let asked_is = st.asked_is in
      let room : last_number es + 1 < 2 ^ 64 = omega arith in
      let was = st.newest_is in
      let same_open : Some (record { number = by; swept = swept }) ≡ open_of es (newest es) = cc in
      let none : opening es ≡ None = not_opening es st.may unasked in
      let may : MayHappen (Full by now from) es = (newest_is, unasked, room, (had_time m s es now st).0 had) in
      let swept_is = sweep_is es by swept (rw newest_is at same_open) in (
        may,
        record {
          may = (may, st.may);
          interval_is = st.interval_is;
          most_is = st.most_is;
          tries_are = st.tries_are;
          newest_is = st.newest_is;
          older_is = st.older_is;
          near_is = st.near_is;
          still_is = st.still_is;
          drains_is = st.drains_is;
          next_is = rw none refl;
          asked_is = omega arith;
          handed_is = ap Some swept_is;
        },
      )

  next-waits : (asked : Bool) (number : Option ℕ) (from kept : Option H) → next_of asked number from ≡ Wanted kept
      → (asked ≡ true) × (number ≡ None)
  next-waits false number from kept e = absurd cc
  next-waits true None from kept e = (refl, refl)
  next-waits true (Some n) from kept e = absurd cc

  -- once the newest one has handed over anew
  pub stands_renewed : (m : Generations H) (s : Settings) (es : List (Event H)) (by swept : ℕ) (kept : Option H) (from : H) → Stands m s es
      → m.next ≡ Wanted kept → m.newest ≡ Some (record { number = by; swept = swept })
      → MayHappen (Renewed by from) es
      × Stands (record m { next = Wanted (Some from); handed_sweep = Some swept }) s (Renewed by from ∷ es)
  stands_renewed m s es by swept kept from st next is =
      let (asked, none) = next-waits (is_asked es) (opening es) (handover es) kept (let e = st.next_is in cc) in
      let newest_is = (number_is es (newest es) m.newest by st.newest_is).0 (rw is refl) in
      let was = st.newest_is in
      let same_open : Some (record { number = by; swept = swept }) ≡ open_of es (newest es) = cc in
      let may : MayHappen (Renewed by from) es = (newest_is, asked, none) in
      let swept_is = sweep_is es by swept (rw newest_is at same_open) in (
        may,
        record {
          may = (may, st.may);
          interval_is = st.interval_is;
          most_is = st.most_is;
          tries_are = st.tries_are;
          newest_is = st.newest_is;
          older_is = st.older_is;
          near_is = st.near_is;
          still_is = st.still_is;
          drains_is = st.drains_is;
          next_is = rw (asked, none) refl;
          asked_is = st.asked_is;
          handed_is = ap Some swept_is;
        },
      )

  -- nothing keeps an older one from being given up
  pub may_be_left : (m : Generations H) (s : Settings) (es : List (Event H)) (now : ℕ) → Stands m s es
      → MayBeLeft m now ↔ (HasRoom es ⊎ IsStill es now)
  may_be_left m s es now st =
      let room = room_is m s es st in
      let still = st.still_is in
      let drains = st.drains_is in (
        λ x. elim x [
          | inl e ↦ inl (room.0 e)
          | inr (inl (since, e, long)) ↦ inr (inl (since, cc, long))
          | inr (inr (since, e, long)) ↦ inr (inr (since, cc, long))
        ],
        λ x. elim x [
          | inl e ↦ inl (room.1 e)
          | inr (inl (since, e, long)) ↦ inr (inl (since, cc, long))
          | inr (inr (since, e, long)) ↦ inr (inr (since, cc, long))
        ],
      )

  -- once a host answered it
  pub stands_progressed : (m : Generations H) (s : Settings) (es : List (Event H)) (n now : ℕ) → Stands m s es
      → in_the_way es ≡ Some n → Stands (record m { still_since = Some now }) s (Progressed n now ∷ es)
  stands_progressed m s es n now st may = record {
    may = (may, st.may);
    interval_is = st.interval_is;
    most_is = st.most_is;
    tries_are = st.tries_are;
    newest_is = st.newest_is;
    older_is = st.older_is;
    near_is = st.near_is;
    still_is = refl;
    drains_is = st.drains_is;
    next_is = st.next_is;
    asked_is = st.asked_is;
    handed_is = st.handed_is;
  }

  -- once its last connection is gone
  pub stands_drained : (m : Generations H) (s : Settings) (es : List (Event H)) (n : ℕ) (after : Older) → Stands m s es
      → Contains (draining es) n → after.kept.items ≡ filter (λ o. not (n == o.number)) m.older.kept.items
      → Stands (record m { older = after }) s (Drained n ∷ es)
  stands_drained m s es n after st may is = record {
    may = (may, st.may);
    interval_is = st.interval_is;
    most_is = st.most_is;
    tries_are = st.tries_are;
    newest_is = st.newest_is;
    older_is = rw (is, st.older_is) (sym (kept_filter n es (draining es)));
    near_is = st.near_is;
    still_is = st.still_is;
    drains_is = st.drains_is;
    next_is = st.next_is;
    asked_is = st.asked_is;
    handed_is = st.handed_is;
  }

  -- once it said that it is near its marks
  pub stands_near : (m : Generations H) (s : Settings) (es : List (Event H)) (by now since : ℕ) → Stands m s es
      → MayHappen (Near by now) es → since ≡ unwrap_or m.near_since now
      → Stands (record m { near_since = Some since }) s (Near by now ∷ es)
  stands_near m s es by now since st may is =
      let near = st.near_is in record {
        may = (may, st.may);
        interval_is = st.interval_is;
        most_is = st.most_is;
        tries_are = st.tries_are;
        newest_is = st.newest_is;
        older_is = st.older_is;
        near_is = ap Some (rw (← near) is);
        still_is = st.still_is;
        drains_is = st.drains_is;
        next_is = st.next_is;
        asked_is = st.asked_is;
        handed_is = st.handed_is;
      }

  -- which one has a number, as it is kept
  pub number_newest : (m : Generations H) (s : Settings) (es : List (Event H)) (n : ℕ) → Stands m s es
      → IsNumber m.newest n ↔ (newest es ≡ Some n)
  number_newest m s es n st = number_is es (newest es) m.newest n st.newest_is

  -- neither the newest one nor one that drains is above the newest
  below_newest : (es : List (Event H)) → IsHistory es → (n : ℕ) → Contains (draining es) n → (o : Option ℕ) → newest es ≡ o
      → IsAbove o n → ⊥
  below_newest es h n c None e above = let none = (ordered es h).first e in in_none n (subst (λ ns. Contains ns n) none c)
  below_newest es h n c (Some m) e above =
      let less : n < m = All-contains (λ k. k < m) (draining es) n ((ordered es h).older m e) c in omega arith

  -- one without a task doesn't drain
  pub no_task : (es : List (Event H)) (n : ℕ) (task : Option Phase) → ((phase : Phase) → task ≡ Some phase → ⊥) → IsTask task es n
      → Contains (draining es) n → ⊥
  no_task es n None never is = is
  no_task es n (Some phase) never is = absurd (never phase refl)

  pub not_above : (es : List (Event H)) → IsHistory es → (n : ℕ) → Contains (draining es) n → IsAbove (newest es) n → ⊥
  not_above es h n c above = below_newest es h n c (newest es) refl above

  -- what the newest one is to do
  pub serves : (es : List (Event H)) → IsHistory es → (n : ℕ) → newest es ≡ Some n → IsPhase Serving es n
  serves es h n e = record {
    awaits = (λ x. absurd cc, λ above. absurd (newest_is_not_above (newest es) n e above));
    serves = (λ x. e, λ x. refl);
    drains = (λ x. absurd cc, λ x. absurd (apart es h n e x.0));
    gives_up = (λ x. absurd cc, λ x. absurd (apart es h n e (first_in (draining es) n x.0.0)));
    stops = (
      λ x. absurd cc,
      λ x. elim x [
        | inl way ↦ absurd (apart es h n e (first_in (draining es) n way.0))
        | inr over ↦ absurd (not_gone es h n (inl e) over.1)
      ],
    );
  }

  -- what one is to do that hasn't opened
  pub awaits : (es : List (Event H)) → IsHistory es → (n : ℕ) → IsAbove (newest es) n → IsPhase Unopened es n
  awaits es h n above = record {
    awaits = (λ x. above, λ x. refl);
    serves = (λ x. absurd cc, λ e. absurd (newest_is_not_above (newest es) n e above));
    drains = (λ x. absurd cc, λ x. absurd (not_above es h n x.0 above));
    gives_up = (λ x. absurd cc, λ x. absurd (not_above es h n (first_in (draining es) n x.0.0) above));
    stops = (
      λ x. absurd cc,
      λ x. elim x [
        | inl way ↦ absurd (not_above es h n (first_in (draining es) n way.0) above)
        | inr over ↦ absurd (over.0 above)
      ],
    );
  }

  -- and what one is to do that is over
  pub is_over : (es : List (Event H)) → IsHistory es → (n : ℕ) → (newest es ≡ Some n → ⊥) → (Contains (draining es) n → ⊥)
      → (IsAbove (newest es) n → ⊥) → IsPhase Stopped es n
  is_over es h n not_newest not_draining below = record {
    awaits = (λ x. absurd cc, λ above. absurd (below above));
    serves = (λ x. absurd cc, λ e. absurd (not_newest e));
    drains = (λ x. absurd cc, λ x. absurd (not_draining x.0));
    gives_up = (λ x. absurd cc, λ x. absurd (not_draining (first_in (draining es) n x.0.0)));
    stops = (λ x. inr (below, gone es h n not_newest not_draining), λ x. refl);
  }

  -- what one that drains is to do where it isn't in the way
  pub aside : (es : List (Event H)) → IsHistory es → (n : ℕ) → Contains (draining es) n → (in_the_way es ≡ Some n → ⊥)
      → IsPhase Draining es n
  aside es h n c not_way = record {
    awaits = (λ x. absurd cc, λ above. absurd (not_above es h n c above));
    serves = (λ x. absurd cc, λ f. absurd (apart es h n f c));
    drains = (λ x. (c, λ way. absurd (not_way way)), λ x. refl);
    gives_up = (λ x. absurd cc, λ x. absurd (not_way x.0.0));
    stops = (
      λ x. absurd cc,
      λ x. elim x [
        | inl way ↦ absurd (not_way way.0)
        | inr over ↦ absurd (not_gone es h n (inr c) over.1)
      ],
    );
  }

  -- what the one in the way is to do where a further one is asked for
  pub is_in_the_way : (es : List (Event H)) → IsHistory es → (n : ℕ) → in_the_way es ≡ Some n → is_asked es ≡ true
      → IsPhase Stopped es n
  is_in_the_way es h n e asked = record {
    awaits = (λ x. absurd cc, λ above. absurd (not_above es h n (first_in (draining es) n e) above));
    serves = (λ x. absurd cc, λ f. absurd (apart es h n f (first_in (draining es) n e)));
    drains = (λ x. absurd cc, λ x. absurd (let other = (x.1 e).0 in cc));
    gives_up = (λ x. absurd cc, λ x. absurd (let other = x.0.1 in cc));
    stops = (λ x. inl (e, asked), λ x. refl);
  }

  -- and where none is
  pub gives_up : (es : List (Event H)) → IsHistory es → (n : ℕ) → in_the_way es ≡ Some n → is_asked es ≡ false → IsSome (near_since es)
      → IsPhase GivingUp es n
  gives_up es h n e unasked near = record {
    awaits = (λ x. absurd cc, λ above. absurd (not_above es h n (first_in (draining es) n e) above));
    serves = (λ x. absurd cc, λ f. absurd (apart es h n f (first_in (draining es) n e)));
    drains = (λ x. absurd cc, λ x. absurd (let other = (x.1 e).1 in cc));
    gives_up = (λ x. ((e, unasked), near), λ x. refl);
    stops = (
      λ x. absurd cc,
      λ x. elim x [
        | inl way ↦ absurd (let other = way.1 in cc)
        | inr over ↦ absurd (not_gone es h n (inr (first_in (draining es) n e)) over.1)
      ],
    );
  }

  pub drains : (es : List (Event H)) → IsHistory es → (n : ℕ) → in_the_way es ≡ Some n → is_asked es ≡ false → near_since es ≡ None
      → IsPhase Draining es n
  drains es h n e unasked near = record {
    awaits = (λ x. absurd cc, λ above. absurd (not_above es h n (first_in (draining es) n e) above));
    serves = (λ x. absurd cc, λ f. absurd (apart es h n f (first_in (draining es) n e)));
    drains = (λ x. (first_in (draining es) n e, λ way. (unasked, near)), λ x. refl);
    gives_up = (λ x. absurd cc, λ x. absurd (let other = x.1 in cc));
    stops = (
      λ x. absurd cc,
      λ x. elim x [
        | inl way ↦ absurd (let other = way.1 in cc)
        | inr over ↦ absurd (not_gone es h n (inr (first_in (draining es) n e)) over.1)
      ],
    );
  }

  -- while one is in the way, no further one is being opened
  not_both : (es : List (Event H)) → HasRoom es → (n : ℕ) → in_the_way es ≡ Some n → ⊥
  not_both es room n e = let none = first_none (draining es) room in absurd cc

  asked_at : (es : List (Event H)) → IsHistory es → (n : ℕ) → in_the_way es ≡ Some n → (asked : Bool) (o : Option ℕ) → is_asked es ≡ asked
      → opening es ≡ o → ((from : Option H) → next_of asked o (handover es) ≡ Wanted from → ⊥) → asked ≡ false
  asked_at es h n e false o a b never = refl
  asked_at es h n e true None a b never = absurd (never (handover es) refl)
  asked_at es h n e true (Some k) a b never = absurd (not_both es ((ordered es h).opens k b).2 n e)

  -- so a further one that isn't wanted isn't asked for
  pub is_unasked : (m : Generations H) (s : Settings) (es : List (Event H)) (n : ℕ) → Stands m s es → in_the_way es ≡ Some n
      → ((from : Option H) → m.next ≡ Wanted from → ⊥) → is_asked es ≡ false
  is_unasked m s es n st e never =
      asked_at es st.may n e (is_asked es) (opening es) refl refl (λ from x. never from (let is = st.next_is in cc))

  next-wanted : (asked : Bool) (number : Option ℕ) (from kept : Option H) → next_of asked number from ≡ Wanted kept → asked ≡ true
  next-wanted false number from kept e = absurd cc
  next-wanted true None from kept e = refl
  next-wanted true (Some n) from kept e = absurd cc

  -- a further one that is wanted is asked for
  pub is_wanted : (m : Generations H) (s : Settings) (es : List (Event H)) (from : Option H) → Stands m s es → m.next ≡ Wanted from
      → is_asked es ≡ true
  is_wanted m s es from st e = next-wanted (is_asked es) (opening es) (handover es) from (let is = st.next_is in cc)

  -- the last sweep of the one kept with this number
  sweep_at : (es : List (Event H)) (o : Option ℕ) (kept : Option Open) (n t : ℕ) → kept ≡ open_of es o
      → kept ≡ Some (record { number = n; swept = t }) → (o ≡ Some n) × (t ≡ last_sweep n es)
  sweep_at es None kept n t e is = absurd cc
  sweep_at es (Some k) kept n t e is =
      let both = same_kept (record { number = n; swept = t }) (record { number = k; swept = last_sweep k es }) cc in
      let number : n ≡ k = ap (λ x. x.number) both in
      let swept : t ≡ last_sweep k es = ap (λ x. x.swept) both in
      (cc, rw number swept)

  pub newest_sweep : (m : Generations H) (s : Settings) (es : List (Event H)) (n t : ℕ) → Stands m s es
      → m.newest ≡ Some (record { number = n; swept = t }) → (has_connections n es ≡ true) × (t ≡ last_sweep n es)
  newest_sweep m s es n t st e =
      let is = sweep_at es (newest es) m.newest n t st.newest_is e in
      (connects es st.may n (inl is.0), is.1)

  -- one kept among those that drain
  kept_in : (es : List (Event H)) (ns : List ℕ) (o : Open) → Contains (kept_of es ns) o → Contains ns o.number × (o.swept ≡ last_sweep o.number es)
  kept_in es ns o c =
      All-contains (λ o. Contains ns o.number × (o.swept ≡ last_sweep o.number es)) (kept_of es ns) o
      (All-map (λ o. Contains ns o.number × (o.swept ≡ last_sweep o.number es)) (λ k. record { number = k; swept = last_sweep k es }) ns
      (λ k d less. (All-contains_itself ns k d less, refl))) c

  pub older_sweep : (m : Generations H) (s : Settings) (es : List (Event H)) (n t : ℕ) → Stands m s es
      → Contains m.older.kept.items (record { number = n; swept = t }) → (has_connections n es ≡ true) × (t ≡ last_sweep n es)
  older_sweep m s es n t st c =
      let is = kept_in es (draining es) (record { number = n; swept = t }) (rw st.older_is at c) in
      (connects es st.may n (inr is.0), is.1)

  -- neither the newest nor one that drains has this number
  pub none_has : (m : Generations H) (s : Settings) (es : List (Event H)) (n : ℕ) → Stands m s es → ¬ IsNumber m.newest n
      → ¬ Contains (numbers_of m.older.kept.items) n → has_connections n es ≡ true → ⊥
  none_has m s es n st a b has = elim (connected es st.may n has) [
    | inl e ↦ a ((number_newest m s es n st).1 e)
    | inr c ↦ b ((drains_is m s es n st).1 c)
  ]

  -- once the newest one has swept
  pub stands_newest_swept : (m : Generations H) (s : Settings) (es : List (Event H)) (n t : ℕ) → Stands m s es → IsNumber m.newest n
      → MayHappen (Swept n t) es × Stands (record m { newest = Some (record { number = n; swept = t }) }) s (Swept n t ∷ es)
  stands_newest_swept m s es n t st is =
      let e = (number_newest m s es n st).0 is in
      let has = connects es st.may n (inl e) in (
        has,
        record {
          may = (has, st.may);
          interval_is = st.interval_is;
          most_is = st.most_is;
          tries_are = st.tries_are;
          newest_is = rw (e, eq-eqb n n refl) refl;
          older_is = let same_is = kept_other n t es (draining es) ((ordered es st.may).older n e) in let older = st.older_is in cc;
          near_is = st.near_is;
          still_is = st.still_is;
          drains_is = st.drains_is;
          next_is = st.next_is;
          asked_is = st.asked_is;
          handed_is = st.handed_is;
        },
      )

  -- another open one, as it is kept
  open_of-swept : (n t : ℕ) (es : List (Event H)) (o : Option ℕ) → ((k : ℕ) → o ≡ Some k → n ≡ k → ⊥)
      → open_of (Swept n t ∷ es) o ≡ open_of es o
  open_of-swept n t es None other = refl
  open_of-swept n t es (Some k) other = rw (ne_eqb n k (other k refl)) refl

  -- once one that drains has
  pub stands_older_swept : (m : Generations H) (s : Settings) (es : List (Event H)) (n t : ℕ) (after : Older) → Stands m s es
      → ¬ IsNumber m.newest n → Contains (numbers_of m.older.kept.items) n → after.kept.items ≡ map (swept_at n t) m.older.kept.items
      → MayHappen (Swept n t) es × Stands (record m { older = after }) s (Swept n t ∷ es)
  stands_older_swept m s es n t after st other c is =
      let d = (drains_is m s es n st).0 c in
      let has = connects es st.may n (inr d) in (
        has,
        record {
          may = (has, st.may);
          interval_is = st.interval_is;
          most_is = st.most_is;
          tries_are = st.tries_are;
          newest_is = let was = st.newest_is in
              let stays = open_of-swept n t es (newest es) (λ k e same_is. other ((number_newest m s es n st).1 (let x = same_is in cc))) in cc;
          older_is = rw (is, st.older_is) (sym (kept_swept n t es (draining es)));
          near_is = st.near_is;
          still_is = st.still_is;
          drains_is = st.drains_is;
          next_is = st.next_is;
          asked_is = st.asked_is;
          handed_is = st.handed_is;
        },
      )

  -- the last sweep of one that drains, where it is asked for
  pub sweep_told : (m : Generations H) (s : Settings) (es : List (Event H)) (n : ℕ) (r : Option ℕ) → Stands m s es
      → ¬ IsNumber m.newest n → IfSome r (λ t. Contains m.older.kept.items (record { number = n; swept = t }))
      → (IsNone r → ¬ Contains (numbers_of m.older.kept.items) n) → SomeIff r (has_connections n es ≡ true) (last_sweep n es)
  sweep_told m s es n None st a some none = λ has. none_has m s es n st a (none refl) has
  sweep_told m s es n (Some t) st a some none = older_sweep m s es n t st some
