-- Runs of a core.
use Rattle.std.proofs.Common.{◌≡◌, ℕ, List, [], ◌∷◌, ◌++◌, length, Result, Ok, Err, refl, sym, ap, ◌∙◌, subst, arith}
use Rattle.std.proofs.lemmas.List.{append_assoc, append-nil}
use Rattle.proxy_history.specs.Setting.{Setting}
use Rattle.proxy_history.specs.History.{History}
use Rattle.proxy_history.specs.declared.answer.Answer.{Answer}
use Rattle.proxy_history.specs.declared.event.Event.{Event}
use Rattle.proxy_history.specs.declared.refusal.Refusal.{Refusal}
use Rattle.proxy_history.specs.Legal.{IsLegal}
use Rattle.proxy_core.specs.Core.{IsTurn, IsRun}

-- a run and one turn more
pub run_more : (S : Setting) (before : History) (pairs : List (ℕ × Event)) (results : List (Result Answer Refusal)) (between : History) (pass : ℕ) (event : Event)
    (r : Result Answer Refusal) (after : History) → IsRun S before pairs results between → IsTurn S between pass event r after
    → IsRun S before (pairs ++ (pass, event) ∷ []) (results ++ r ∷ []) after
run_more S before [] [] between pass event r after h turn = (after, subst (λ (z : History). IsTurn S z pass event r after) h turn, refl)
run_more S before [] (x ∷ results) between pass event r after h turn = absurd h
run_more S before (p ∷ pairs) [] between pass event r after h turn = absurd h
run_more S before (p ∷ pairs) (x ∷ results) between pass event r after (next, first, others) turn =
    (next, first, run_more S next pairs results between pass event r after others turn)

-- a turn leads from a legal history to a legal one
IsLegal-turn : (S : Setting) (before : History) (pass : ℕ) (event : Event) (r : Result Answer Refusal) (after : History) → IsLegal S before → IsTurn S before pass event r after
    → IsLegal S after
IsLegal-turn S before pass event (Ok a) after legal turn = subst (IsLegal S) (sym turn.1) (legal, turn.0)
IsLegal-turn S before pass event (Err r) after legal turn = subst (IsLegal S) (sym turn.1) legal

-- and so does a run
pub IsLegal-run : (S : Setting) (before : History) (pairs : List (ℕ × Event)) (results : List (Result Answer Refusal)) (after : History) → IsLegal S before
    → IsRun S before pairs results after → IsLegal S after
IsLegal-run S before [] [] after legal run = subst (IsLegal S) (sym run) legal
IsLegal-run S before [] (r ∷ results) after legal run = absurd run
IsLegal-run S before (p ∷ pairs) [] after legal run = absurd run
IsLegal-run S before (p ∷ pairs) (r ∷ results) after legal (next, first, others) =
    IsLegal-run S next pairs results after (IsLegal-turn S before p.0 p.1 r next legal first) others

pub append-item : {X : Type 0} (xs ys zs all : List X) (x : X) → ys ≡ x ∷ zs → xs ++ ys ≡ all → (xs ++ x ∷ []) ++ zs ≡ all
append-item xs ys zs all x e h = append_assoc xs (x ∷ []) zs ∙ ap (λ z. xs ++ z) (sym e) ∙ h

pub all-yielded : {X : Type 0} (xs ys all : List X) → length ys ≡ 0 → xs ++ ys ≡ all → xs ≡ all
all-yielded xs [] all e h = sym (append-nil xs) ∙ h
all-yielded xs (y ∷ ys) all e h = absurd (omega (arith, e))
