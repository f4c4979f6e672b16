-- The marks of a history: what outlier detection is told.
use Rattle.std.specs.Prelude.{ℕ, Bool, false, ◌==◌, ◌&&◌, if◌then◌else◌, List, [], ◌∷◌, length}
use Rattle.ejector.specs.declared.mark.Mark.{Mark}
use Rattle.ejector.specs.declared.mark.Mark.TheVariants.{Good, Bad, Sweep}
use Rattle.proxy_history.specs.Part.{Past}
use Rattle.proxy_history.specs.Waiting.{waiting_parts, flying_count}
use Rattle.proxy_history.specs.declared.event.Kind.{Kind}
use Rattle.proxy_history.specs.declared.event.Kind.TheVariants.{Refused, Dropped, Late, Garbled}
use Rattle.proxy_history.specs.declared.event.Event.{Event}
use Rattle.proxy_history.specs.declared.event.Event.TheVariants.{Answered, Failed, Swept}

-- a link that ends while its host has nothing to do is no fault of the host, for which so many parts wait and to which so many
-- fly
abbrev pub is_excused_by : ℕ → ℕ → Kind → Bool
is_excused_by waiting flying Refused = false
is_excused_by waiting flying Dropped = (waiting == 0) && (flying == 0)
is_excused_by waiting flying Late = false
is_excused_by waiting flying Garbled = false

-- the same after a past
abbrev pub is_excused : Past → ℕ → Kind → Bool
is_excused past h kind = is_excused_by (length (waiting_parts h past)) (flying_count h past) kind

-- the mark of a fault, if it is one, of a host for which so many parts wait and to which so many fly
abbrev pub mark_of_fault : ℕ → ℕ → ℕ → Kind → ℕ → List Mark
mark_of_fault waiting flying h kind t = if is_excused_by waiting flying kind then [] else Bad h t ∷ []

-- the mark of an event, if it is one
abbrev pub mark_by : Past → Event → List Mark
mark_by past (Answered host epoch value t) = Good host t ∷ []
mark_by past (Failed host epoch kind t) = mark_of_fault (length (waiting_parts host past)) (flying_count host past) host kind t
mark_by past (Swept t) = Sweep t ∷ []
mark_by past _ = []
