-- Hosts that are stepped one after the other, until all are idle.
use Rattle.std.proofs.Common.{◌≡◌, ◌<◌, ◌≤◌, ◌+◌, ◌∙◌, ◌++◌, ℕ, zero, suc, List, [], ◌∷◌, length, drop, set, get_or, Option, Some, None, ap, append_assoc, append-nil, add-one, inl, inr, sym, arith}
use Rattle.std.specs.Prelude.{⊤}
use Rattle.std.specs.List.{AllZip}
use Rattle.proxy_history.specs.History.{Step}
use Rattle.proxy_history.specs.declared.event.Event.{Event}
use Rattle.proxy_history.specs.declared.refusal.Refusal.{Refusal}
use Rattle.proxy_engines.specs.Host.{HostOutboxState, LinkState}
use Rattle.proxy_engines.specs.HostStep.{HostState, IsIdleOn}
use Rattle.proxy_engines.specs.OneTurn.{HasHeld}
use Rattle.proxy_local.specs.Moves.{RestsIdle}
use Rattle.ticket_gate.specs.Journal.{StartsWith}

-- WHAT IS SEEN

pub starts_same : (a : List Step) → StartsWith a a
starts_same a = ([], sym (append-nil a))

pub starts_then : (a b c : List Step) → StartsWith b a → StartsWith c b → StartsWith c a
starts_then a b c p q = (p.0 ++ q.0, q.1 ∙ ap (λ z. z ++ q.0) p.1 ∙ append_assoc a p.0 q.0)

-- THE FIRST ITEMS OF A LIST

-- of the first so many items each is as R says of the old and the new one, and the others are as they were
abbrev pub FirstZip : {X : Type 0} → (X → X → Type 0) → ℕ → List X → List X → Type 0
FirstZip R zero xs ys = ys ≡ xs
FirstZip R (suc n) [] [] = ⊤
FirstZip R (suc n) [] (y ∷ ys) = ⊥
FirstZip R (suc n) (x ∷ xs) [] = ⊥
FirstZip R (suc n) (x ∷ xs) (y ∷ ys) = R x y × FirstZip R n xs ys

first_suc : {X : Type 0} (R : X → X → Type 0) (n : ℕ) (xs ys : List X) (d z : X) → FirstZip R n xs ys → n < length xs → R (get_or ys n d) z → FirstZip R (suc n) xs (set ys n z)
first_suc R zero [] ys d z e l r = absurd (omega (arith, l))
first_suc R zero (x ∷ xs) [] d z e l r = absurd cc
first_suc R zero (x ∷ xs) (y ∷ ys) d z e l r = let head : y ≡ x = ap (λ zs. get_or zs 0 d) e in let tail : ys ≡ xs = ap (drop 1) e in (rw head at r, tail)
first_suc R (suc n) [] ys d z e l r = absurd (omega (arith, l))
first_suc R (suc n) (x ∷ xs) [] d z e l r = absurd e
first_suc R (suc n) (x ∷ xs) (y ∷ ys) d z e l r = (e.0, first_suc R n xs ys d z e.1 (omega (arith, l)) r)

-- one item more
pub first_more : {X : Type 0} (R : X → X → Type 0) (n : ℕ) (xs ys : List X) (d z : X) → FirstZip R n xs ys → n < length xs → R (get_or ys n d) z → FirstZip R (n + 1) xs (set ys n z)
first_more R n xs ys d z e l r = rw add-one (first_suc R n xs ys d z e l r)

-- all of them
pub first_all : {X : Type 0} (R : X → X → Type 0) (n : ℕ) (xs ys : List X) → FirstZip R n xs ys → length xs ≤ n → AllZip R xs ys
first_all R zero [] [] e l = tt
first_all R zero [] (y ∷ ys) e l = absurd cc
first_all R zero (x ∷ xs) ys e l = absurd (omega (arith, l))
first_all R (suc n) [] [] e l = tt
first_all R (suc n) [] (y ∷ ys) e l = absurd e
first_all R (suc n) (x ∷ xs) [] e l = absurd e
first_all R (suc n) (x ∷ xs) (y ∷ ys) e l = (e.0, first_all R n xs ys e.1 (omega (arith, l)))

first_as : {X : Type 0} (R S : X → X → Type 0) (n : ℕ) (xs ys : List X) → ((x y : X) → R x y → S x y) → FirstZip R n xs ys → FirstZip S n xs ys
first_as R S zero xs ys f e = e
first_as R S (suc n) [] [] f e = tt
first_as R S (suc n) [] (y ∷ ys) f e = absurd e
first_as R S (suc n) (x ∷ xs) [] f e = absurd e
first_as R S (suc n) (x ∷ xs) (y ∷ ys) f e = (f x y e.0, first_as R S n xs ys f e.1)

zip_as : {X : Type 0} (R S : X → X → Type 0) (xs ys : List X) → ((x y : X) → R x y → S x y) → AllZip R xs ys → AllZip S xs ys
zip_as R S [] [] f e = tt
zip_as R S [] (y ∷ ys) f e = absurd e
zip_as R S (x ∷ xs) [] f e = absurd e
zip_as R S (x ∷ xs) (y ∷ ys) f e = (f x y e.0, zip_as R S xs ys f e.1)

-- IDLE HOSTS

idle_as : (V W : Type 0) (l : HostOutboxState) (j k : Option LinkState) → (V → W) → IsIdleOn V l j k → IsIdleOn W l j k
idle_as V W l None None f (none, waits) = (none, f waits)
idle_as V W l None (Some k) f e = absurd e
idle_as V W l (Some j) None f e = absurd e
idle_as V W l (Some j) (Some k) f (reads, inl writes) = (reads, inl writes)
idle_as V W l (Some j) (Some k) f (reads, inr (none, waits)) = (reads, inr (none, f waits))

-- what held between two held between any that lie around them
held_around : (cause : Event → List Step → Type 0) (event : Event) (w x y z : List Step) → StartsWith x w → StartsWith z y → HasHeld cause event x y → HasHeld cause event w z
held_around cause event w x y z before after (here, first, last, is) = (here, starts_then w x here before first, starts_then here y z last after, is)

pub rests_around : (cause : Refusal → Event → List Step → Type 0) (w x y z : List Step) (old new : HostState) → StartsWith x w → StartsWith z y → RestsIdle cause x y old new → RestsIdle cause w z old new
rests_around cause w x y z old new before after rests =
    idle_as _ _ old.outbox old.link new.link (held_around (cause Refusal.NothingWaiting) (Event.Taken old.outbox.host) w x y z before after) rests

pub first_around : (cause : Refusal → Event → List Step → Type 0) (w y z : List Step) (n : ℕ) (xs ys : List HostState) → StartsWith z y → FirstZip (RestsIdle cause w y) n xs ys → FirstZip (RestsIdle cause w z) n xs ys
first_around cause w y z n xs ys after e = first_as _ _ n xs ys (λ old new rests. rests_around cause w w y z old new (starts_same w) after rests) e

pub all_around : (cause : Refusal → Event → List Step → Type 0) (w x y : List Step) (xs ys : List HostState) → StartsWith x w → AllZip (RestsIdle cause x y) xs ys → AllZip (RestsIdle cause w y) xs ys
all_around cause w x y xs ys before e = zip_as _ _ xs ys (λ old new rests. rests_around cause w x y y old new before (starts_same y) rests) e
