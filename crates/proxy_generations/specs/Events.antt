-- What happens to generations, and what that says. The lists are of all that happened, the newest first.
use Rattle.std.specs.Prelude.{ℕ, Bool, true, false, ◌==◌, ◌&&◌, ◌||◌, ◌+◌, not, if◌then◌else◌, Option, Some, None, unwrap_or, option_to_list, List, [], ◌∷◌, ◌++◌, filter}
use Rattle.proxy_generations.specs.Older.{first_if_full}

-- What happens: a generation is given to be opened, opens or can't, is near its marks, is full and hands over, hands over anew,
-- has a command answered by a host, has lost its last connection, sweeps. Opening, being near or full, answers and sweeps have a
-- moment.
pub data Event (H : Type 0) : Type 0 where
  Taken : ℕ → Event H
  Opened : ℕ → ℕ → Event H
  Failed : ℕ → Event H
  Near : ℕ → ℕ → Event H
  Full : ℕ → ℕ → H → Event H
  Renewed : ℕ → H → Event H
  Progressed : ℕ → ℕ → Event H
  Drained : ℕ → Event H
  Swept : ℕ → ℕ → Event H

module _ {H : Type 0} where
  -- the number of the last generation that opened
  abbrev pub newest : List (Event H) → Option ℕ
  newest [] = None
  newest (Opened n t ∷ es) = Some n
  newest (_ ∷ es) = newest es

  -- the numbers of those that drain, which opened before the newest, until the last connection of each is gone; the oldest first
  abbrev pub draining : List (Event H) → List ℕ
  draining [] = []
  draining (Opened n t ∷ es) = draining es ++ option_to_list (newest es)
  draining (Drained n ∷ es) = filter (λ m. not (n == m)) (draining es)
  draining (_ ∷ es) = draining es

  -- the one in the way of the next: the oldest, where as many drain as may
  abbrev pub in_the_way : List (Event H) → Option ℕ
  in_the_way es = first_if_full (draining es)

  -- a generation has opened, and its last connection isn't gone
  abbrev pub has_connections : ℕ → List (Event H) → Bool
  has_connections n [] = false
  has_connections n (Opened m t ∷ es) = (m == n) || has_connections n es
  has_connections n (Drained m ∷ es) = not (m == n) && has_connections n es
  has_connections n (_ ∷ es) = has_connections n es

  -- a generation is asked for, and has neither opened nor failed since; the first one is from the beginning
  abbrev pub is_asked : List (Event H) → Bool
  is_asked [] = true
  is_asked (Full n t h ∷ es) = true
  is_asked (Opened n t ∷ es) = false
  is_asked (Failed n ∷ es) = false
  is_asked (_ ∷ es) = is_asked es

  -- the number of the one that was asked for last: how many were asked for before it
  abbrev pub last_number : List (Event H) → ℕ
  last_number [] = 0
  last_number (Full n t h ∷ es) = last_number es + 1
  last_number (_ ∷ es) = last_number es

  -- which generation handed over last, and what
  abbrev pub asker : List (Event H) → Option ℕ
  asker [] = None
  asker (Full n t h ∷ es) = Some n
  asker (Renewed n h ∷ es) = Some n
  asker (_ ∷ es) = asker es

  abbrev pub handover : List (Event H) → Option H
  handover [] = None
  handover (Full n t h ∷ es) = Some h
  handover (Renewed n h ∷ es) = Some h
  handover (_ ∷ es) = handover es

  -- the number of the one being opened: it was given, and has neither opened nor failed since
  abbrev pub opening : List (Event H) → Option ℕ
  opening [] = None
  opening (Taken n ∷ es) = Some n
  opening (Opened n t ∷ es) = None
  opening (Failed n ∷ es) = None
  opening (_ ∷ es) = opening es

  -- the moment when a generation first said that it is near its marks, with none opened since
  abbrev pub near_since : List (Event H) → Option ℕ
  near_since [] = None
  near_since (Near n t ∷ es) = Some (unwrap_or (near_since es) t)
  near_since (Opened n t ∷ es) = None
  near_since (_ ∷ es) = near_since es

  -- the moment when a host last answered commands of the one in the way; before the first answer, that when the newest one opened
  abbrev pub still_since : List (Event H) → Option ℕ
  still_since [] = None
  still_since (Progressed n t ∷ es) = Some t
  still_since (Opened n t ∷ es) = Some t
  still_since (_ ∷ es) = still_since es

  -- the moment when the newest one opened
  abbrev pub drains_since : List (Event H) → Option ℕ
  drains_since [] = None
  drains_since (Opened n t ∷ es) = Some t
  drains_since (_ ∷ es) = drains_since es

  -- how many failed in a row, with none opened between
  abbrev pub failures : List (Event H) → ℕ
  failures [] = 0
  failures (Failed n ∷ es) = failures es + 1
  failures (Opened n t ∷ es) = 0
  failures (_ ∷ es) = failures es

  abbrev mutual
    -- The moment of the last sweep in the line of generations that leads to this one: its own last one, else the last in the
    -- line of the one that handed over to it, when it did; with none before it, the moment when it opened.
    pub last_sweep : ℕ → List (Event H) → ℕ
    last_sweep n [] = 0
    last_sweep n (Swept m t ∷ es) = if m == n then t else last_sweep n es
    last_sweep n (Opened m t ∷ es) = if m == n then unwrap_or (handed_sweep es) t else last_sweep n es
    last_sweep n (_ ∷ es) = last_sweep n es

    -- the last sweep in the line of the one that handed over last, when it did
    pub handed_sweep : List (Event H) → Option ℕ
    handed_sweep [] = None
    handed_sweep (Full n t h ∷ es) = Some (last_sweep n es)
    handed_sweep (Renewed n h ∷ es) = Some (last_sweep n es)
    handed_sweep (_ ∷ es) = handed_sweep es
