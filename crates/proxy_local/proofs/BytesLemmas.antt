-- The known bytes of a reader and a writer, from one call to the next.
use Rattle.std.proofs.Common.{ℕ, List, [], ◌++◌, Option, None, Some, refl, sym, ap, ◌∙◌, append_assoc, append-nil}
use Rattle.std.specs.Io.KnownBytes.{Appends, Consumes, Keeps, append_known}

pub Consumes-none : (a : Option (List ℕ)) → Consumes a a []
Consumes-none None = tt
Consumes-none (Some xs) = refl

pub Appends-none : (a : Option (List ℕ)) → Appends a a []
Appends-none None = tt
Appends-none (Some xs) = sym (append-nil xs)

pub Consumes-append : (a b c : Option (List ℕ)) (g h : List ℕ) → Consumes a b g → Consumes b c h → Consumes a c (g ++ h)
Consumes-append None b c g h x y = tt
Consumes-append (Some xs) None c g h x y = absurd x
Consumes-append (Some xs) (Some ys) None g h x y = absurd y
Consumes-append (Some xs) (Some ys) (Some zs) g h x y = x ∙ ap (λ z. g ++ z) y ∙ sym (append_assoc g h zs)

pub Appends-append : (a b c : Option (List ℕ)) (g h : List ℕ) → Appends a b g → Appends b c h → Appends a c (g ++ h)
Appends-append None b c g h x y = tt
Appends-append (Some xs) None c g h x y = absurd x
Appends-append (Some xs) (Some ys) None g h x y = absurd y
Appends-append (Some xs) (Some ys) (Some zs) g h x y = y ∙ ap (λ z. z ++ h) x ∙ append_assoc xs g h

-- with nothing gathered before, and all given back after
pub Appends-gathered : (a b c : Option (List ℕ)) (g : List ℕ) → Appends (append_known a []) b g → Keeps b c → Appends a c g
Appends-gathered None b c g x y = tt
Appends-gathered (Some xs) None c g x y = absurd x
Appends-gathered (Some xs) (Some ys) None g x y = absurd y
Appends-gathered (Some xs) (Some ys) (Some zs) g x y = y ∙ x ∙ ap (λ z. z ++ g) (append-nil xs)

pub Keeps-then : (a b c : Option (List ℕ)) → Keeps a b → Keeps b c → Keeps a c
Keeps-then None b c x y = tt
Keeps-then (Some xs) None c x y = absurd x
Keeps-then (Some xs) (Some ys) None x y = absurd y
Keeps-then (Some xs) (Some ys) (Some zs) x y = y ∙ x
