-- What a reader had and a writer holds, from one piece to the next.
use Rattle.std.proofs.Common.{◌≡◌, ℕ, List, [], ◌++◌, Option, None, Some, refl, sym, ap, subst, ◌∙◌, append_assoc, append-nil}
use Rattle.std.specs.Prelude.{IfSome}
use Rattle.std.specs.Io.KnownBytes.{Appends, Consumes, IsAtEnd}
use Rattle.key_owners.specs.Lines.{EndsWith, TakesIn, Telling, TellsOfAll}
use Rattle.key_owners.proofs.TellingLemmas.{takes_join}

Consumes-none : (a : Option (List ℕ)) → Consumes a a []
Consumes-none None = tt
Consumes-none (Some xs) = refl

Appends-none : (a : Option (List ℕ)) → Appends a a []
Appends-none None = tt
Appends-none (Some xs) = sym (append-nil xs)

Consumes-append : (a b c : Option (List ℕ)) (g h : List ℕ) → Consumes a b g → Consumes b c h → Consumes a c (g ++ h)
Consumes-append None b c g h x y = tt
Consumes-append (Some xs) None c g h x y = absurd x
Consumes-append (Some xs) (Some ys) None g h x y = absurd y
Consumes-append (Some xs) (Some ys) (Some zs) g h x y = x ∙ ap (λ z. g ++ z) y ∙ sym (append_assoc g h zs)

Appends-append : (a b c : Option (List ℕ)) (g h : List ℕ) → Appends a b g → Appends b c h → Appends a c (g ++ h)
Appends-append None b c g h x y = tt
Appends-append (Some xs) None c g h x y = absurd x
Appends-append (Some xs) (Some ys) None g h x y = absurd y
Appends-append (Some xs) (Some ys) (Some zs) g h x y = y ∙ ap (λ z. z ++ h) x ∙ append_assoc xs g h

-- some bytes came and were taken in, and what is told of them is written
pub record HasTold (start now : Telling) (came left held holds : Option (List ℕ)) : Type 0 where
  pub bytes : List ℕ
  pub text : List ℕ
  pub consumes : Consumes came left bytes
  pub appends : Appends held holds text
  pub takes : TakesIn start bytes now text

pub told_nothing : (start : Telling) (came held : Option (List ℕ)) → TakesIn start [] start [] → HasTold start start came came held held
told_nothing start came held takes = record { bytes = []; text = []; consumes = Consumes-none came; appends = Appends-none held; takes = takes }

pub told_more : (start now new : Telling) (came left lefts held holds held' : Option (List ℕ)) (piece : List ℕ) → HasTold start now came left held holds → Consumes left lefts piece
    → (text : List ℕ) × TakesIn now piece new text × Appends holds held' text → HasTold start new came lefts held held'
told_more start now new came left lefts held holds held' piece h consumes (text, takes, appends) = record {
  bytes = h.bytes ++ piece;
  text = h.text ++ text;
  consumes = Consumes-append came left lefts h.bytes piece h.consumes consumes;
  appends = Appends-append held holds held' h.text text h.appends appends;
  takes = takes_join start now new h.bytes piece h.text text h.takes takes;
}

ended_bytes : (came left lefts : Option (List ℕ)) (bytes : List ℕ) → Consumes came left bytes → Consumes left lefts [] → IsAtEnd lefts → IfSome came (λ b. b ≡ bytes)
ended_bytes None left lefts bytes consumes none end = tt
ended_bytes (Some xs) None lefts bytes consumes none end = absurd consumes
ended_bytes (Some xs) (Some ys) None bytes consumes none end = absurd none
ended_bytes (Some xs) (Some ys) (Some zs) bytes consumes none end = consumes ∙ ap (λ l. bytes ++ l) (none ∙ end) ∙ append-nil bytes

-- all that `tell_owners` promises
abbrev pub TellsAll : Telling → Option (List ℕ) → Option (List ℕ) → Option (List ℕ) → Type 0
TellsAll start came held holds = IfSome came (λ bytes. (text : List ℕ) × TellsOfAll start bytes text × Appends held holds text)

all_of : (start : Telling) (came held holds : Option (List ℕ)) (bytes text : List ℕ) → IfSome came (λ b. b ≡ bytes) → TellsOfAll start bytes text → Appends held holds text → TellsAll start came held holds
all_of start None held holds bytes text same tells appends = tt
all_of start (Some b) held holds bytes text same tells appends = (text, subst (λ xs. TellsOfAll start xs text) (sym same) tells, appends)

pub told_all : (start now : Telling) (came left lefts held holds held' : Option (List ℕ)) → HasTold start now came left held holds → Consumes left lefts [] → IsAtEnd lefts
    → (text : List ℕ) × EndsWith now text × Appends holds held' text → TellsAll start came held held'
told_all start now came left lefts held holds held' h none end (last, ends, appends) =
    all_of start came held held' h.bytes (h.text ++ last) (ended_bytes came left lefts h.bytes h.consumes none end)
    (record { end = now; told = h.text; last = last; takes = h.takes; ends = ends; parts = refl })
    (Appends-append held holds held' h.text last h.appends appends)
