-- A list of steps, the oldest first, and its history.
use Rattle.std.proofs.Common.{◌≡◌, ◌+◌, ◌<◌, ◌≤◌, ℕ, Bool, true, false, List, [], ◌∷◌, length, take, get_or, refl, ap, ◌∙◌}
use Rattle.std.specs.Prelude.{reverse}
use Rattle.std.proofs.lemmas.List.{take_more, take_all, reverse-append, length-reverse, length-take-le}
use Rattle.proxy_history.specs.History.{Step, times}
use Rattle.test_reference.specs.Scan.{history_of}
use Rattle.proxy_history.specs.declared.event.Event.{Event}

-- the history of one step more
pub history_of-more : (steps : List Step) (i : ℕ) (d : Step) → i < length steps → history_of (take (i + 1) steps) ≡ get_or steps i d ∷ history_of (take i steps)
history_of-more steps i d l = ap reverse (take_more steps i d l) ∙ reverse-append (take i steps) (get_or steps i d ∷ [])

pub history_of-all : (steps : List Step) (i : ℕ) → length steps ≤ i → history_of (take i steps) ≡ history_of steps
history_of-all steps i l = ap reverse (take_all i steps l)

-- one step more that is counted, and one that isn't
pub times-more : (is : Event → Bool) (steps : List Step) (i : ℕ) (d : Step) → i < length steps → is (get_or steps i d).event ≡ true → times is (history_of (take (i + 1) steps)) ≡ times is (history_of (take i steps)) + 1
times-more is steps i d l e = rw (history_of-more steps i d l, e) refl

pub times-same : (is : Event → Bool) (steps : List Step) (i : ℕ) (d : Step) → i < length steps → is (get_or steps i d).event ≡ false → times is (history_of (take (i + 1) steps)) ≡ times is (history_of (take i steps))
times-same is steps i d l e = rw (history_of-more steps i d l, e) refl

pub length-history_of : (steps : List Step) (i : ℕ) → i ≤ length steps → length (history_of (take i steps)) ≡ i
length-history_of steps i l = length-reverse (take i steps) ∙ length-take-le i steps l
