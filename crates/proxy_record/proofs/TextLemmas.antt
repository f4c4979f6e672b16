-- Texts that are put together piece by piece.
use Rattle.std.proofs.Common.{◌≡◌, ℕ, ◌+◌, ◌<◌, List, ◌++◌, length, map, take, get_or, refl, sym, ap, ◌∙◌}
use Rattle.std.specs.Prelude.{Result, OnOk}
use Rattle.std.specs.List.{concat}
use Rattle.std.proofs.lemmas.Result.{on_ok_weaker}
use Rattle.std.proofs.lemmas.List.{append-nil, append_assoc, map-append, take_more}
use Rattle.std.proofs.lemmas.List.Folds.{concat-append}

-- one more text behind those of a list's first so many
pub concat_more : {X : Type 0} (text : X → List ℕ) (xs : List X) (i : ℕ) (d : X) → i < length xs
    → concat (map text (take (i + 1) xs)) ≡ concat (map text (take i xs)) ++ text (get_or xs i d)
concat_more text xs i d within =
    rw (take_more xs i d within, map-append, concat-append, append-nil) refl

-- a text grows by a piece where its last part does
pub grown : (all start before piece after more : List ℕ) → all ≡ start ++ before → after ≡ all ++ piece → more ≡ before ++ piece → after ≡ start ++ more
grown all start before piece after more p q r =
    q ∙ ap (λ z. z ++ piece) p ∙ append_assoc start before piece ∙ ap (λ z. start ++ z) (sym r)

-- a piece and then a second
pub two : {X Y : Type 0} (r : Result X Y) (old a b p new : List ℕ) → p ≡ old ++ a → OnOk r (new ≡ p ++ b) → OnOk r (new ≡ old ++ (a ++ b))
two r old a b p new first = on_ok_weaker r (λ second. second ∙ ap (λ z. z ++ b) first ∙ append_assoc old a b)

-- two pieces and then a third
pub three : {X Y : Type 0} (r : Result X Y) (old a b c p q new : List ℕ) → p ≡ old ++ a → q ≡ p ++ b → OnOk r (new ≡ q ++ c) → OnOk r (new ≡ old ++ (a ++ b ++ c))
three r old a b c p q new first second = on_ok_weaker r (λ third.
    third ∙ ap (λ z. z ++ c) (second ∙ ap (λ z. z ++ b) first ∙ append_assoc old a b) ∙ append_assoc old (a ++ b) c)

-- and a fourth
pub four : {X Y : Type 0} (r : Result X Y) (old a b c d p q s new : List ℕ) → p ≡ old ++ a → q ≡ p ++ b → s ≡ q ++ c → OnOk r (new ≡ s ++ d)
    → OnOk r (new ≡ old ++ (a ++ b ++ c ++ d))
four r old a b c d p q s new first second third = on_ok_weaker r (λ fourth.
    fourth
    ∙ ap (λ z. z ++ d) (third ∙ ap (λ z. z ++ c) (second ∙ ap (λ z. z ++ b) first ∙ append_assoc old a b) ∙ append_assoc old (a ++ b) c)
    ∙ append_assoc old (a ++ b ++ c) d)

-- and a fifth
pub five : {X Y : Type 0} (r : Result X Y) (old a b c d e p q s t new : List ℕ) → p ≡ old ++ a → q ≡ p ++ b → s ≡ q ++ c → t ≡ s ++ d
    → OnOk r (new ≡ t ++ e) → OnOk r (new ≡ old ++ (a ++ b ++ c ++ d ++ e))
five r old a b c d e p q s t new first second third fourth = on_ok_weaker r (λ fifth.
    fifth
    ∙ ap (λ z. z ++ e) (fourth ∙ ap (λ z. z ++ d) (third ∙ ap (λ z. z ++ c) (second ∙ ap (λ z. z ++ b) first ∙ append_assoc old a b) ∙ append_assoc old (a ++ b) c)
    ∙ append_assoc old (a ++ b ++ c) d)
    ∙ append_assoc old (a ++ b ++ c ++ d) e)
