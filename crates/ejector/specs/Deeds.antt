-- What marks did, and places in the list of what all marks did, which has the newest first.
use Rattle.std.specs.Prelude.{ℕ, Bool, ◌==◌, ◌||◌, if◌then◌else◌, List, [], ◌∷◌}
use Rattle.std.specs.List.{list_any}
use Rattle.ejector.specs.declared.mark.Mark.{Mark}
use Rattle.ejector.specs.Marks.{is_good, is_sweep}

-- what one mark did: which hosts it put aside, which tripped and stayed, which came back, and whose multiplier it lowered
pub record Deed : Type 0 where
  pub mark : Mark
  pub ejected : List ℕ
  pub kept : List ℕ
  pub returned : List ℕ
  pub lowered : List ℕ

-- whether a host is among some
abbrev pub is_among : ℕ → List ℕ → Bool
is_among h hosts = list_any (λ k. k == h) hosts

-- whether a deed puts the host aside
abbrev pub ejects : ℕ → Deed → Bool
ejects h d = is_among h d.ejected

-- whether the host trips by a deed
abbrev pub trips : ℕ → Deed → Bool
trips h d = is_among h d.ejected || is_among h d.kept

-- whether a deed brings the host back
abbrev pub returns : ℕ → Deed → Bool
returns h d = is_among h d.returned

-- whether a deed lowers the host's multiplier
abbrev pub lowers : ℕ → Deed → Bool
lowers h d = is_among h d.lowered

-- a good result, a trip and a return end a streak
abbrev pub ends_streak : ℕ → Deed → Bool
ends_streak h d = is_good h d.mark || trips h d || returns h d

-- a sweep ends an interval
abbrev pub ends_interval : Deed → Bool
ends_interval d = is_sweep d.mark

-- PLACES IN THE LIST

-- what came after the last deed that passes the test, and all where none does
abbrev pub after_last : (Deed → Bool) → List Deed → List Deed
after_last test [] = []
after_last test (d ∷ before) = if test d then [] else (d ∷ after_last test before)

-- the last deed that passes the test, and what came before it
abbrev pub up_to_last : (Deed → Bool) → List Deed → List Deed
up_to_last test [] = []
up_to_last test (d ∷ before) = if test d then (d ∷ before) else up_to_last test before
