-- Whether anything moved, over several moves.
use Rattle.std.proofs.Common.{◌≡◌, ◌≢◌, ◌<◌, ◌∙◌, ℕ, Bool, true, false, List, [], ◌∷◌, ◌++◌, Option, Some, None, ap, append_assoc, append-nil, arith, length, refl, sym}
use Rattle.std.specs.Prelude.{◌||◌, ◌≤◌, zero, suc, take, unwrap_or, Result, Ok, Err, IfOk, IsErr, OnErr}
use Rattle.proxy_history.specs.History.{History}
use Rattle.proxy_history.specs.declared.answer.Answer.{Answer}
use Rattle.proxy_history.specs.declared.event.Event.{Event}
use Rattle.proxy_engines.specs.Moves.{has_moved, AsTold, IsEndOf, last_text, told_by_step, told_by_turn}
use Rattle.proxy_engines.specs.Faults.{is_fault, told_by_moves, told_by_outcome}
use Rattle.proxy_engines.specs.declared.client.Progress.{Progress}
use Rattle.proxy_engines.specs.declared.link.Outcome.{Outcome}
use Rattle.engine_work.specs.declared.error.EngineError.{EngineError}

pub has_moved-append : (a b c d : List ℕ) (e f : History) → has_moved (a ++ b) (c ++ d) (f ++ e) ≡ (has_moved a c e || has_moved b d f)
has_moved-append (x ∷ a) b c d e f = refl
has_moved-append [] [] (x ∷ c) d e f = refl
has_moved-append [] (y ∷ b) (x ∷ c) d e f = refl
has_moved-append [] (y ∷ b) [] d (s ∷ e) f = refl
has_moved-append [] [] [] (z ∷ d) (s ∷ e) f = refl
has_moved-append [] [] [] [] (s ∷ e) [] = refl
has_moved-append [] [] [] [] (s ∷ e) (t ∷ f) = refl
has_moved-append [] (y ∷ b) [] d [] f = refl
has_moved-append [] [] [] (z ∷ d) [] f = refl
has_moved-append [] [] [] [] [] [] = refl
has_moved-append [] [] [] [] [] (t ∷ f) = refl

-- some bytes of these
pub has_moved-take : (n : ℕ) (bytes : List ℕ) → 0 < n → n ≤ length bytes → true ≡ has_moved [] (take n bytes) []
has_moved-take zero bytes some few = absurd (omega (arith, some))
has_moved-take (suc n) [] some few = absurd (omega (arith, few))
has_moved-take (suc n) (x ∷ bytes) some few = refl

pub has_moved-read : (n : ℕ) (bytes : List ℕ) → 0 < n → n ≤ length bytes → true ≡ has_moved (take n bytes) [] []
has_moved-read zero bytes some few = absurd (omega (arith, some))
has_moved-read (suc n) [] some few = absurd (omega (arith, few))
has_moved-read (suc n) (x ∷ bytes) some few = refl

pub or-false : (a : Bool) → (a || false) ≡ a
or-false true = refl
or-false false = refl

pub or-true : (a : Bool) → (a || true) ≡ true
or-true true = refl
or-true false = refl

-- an error tells nothing of what moved
pub step-err : (Goes : Bool → Type 0) (r : Result Progress EngineError) → IsErr r → ((moved : Bool) × Goes moved) → AsTold Goes (told_by_step r)
step-err Goes (Ok p) e g = absurd cc
step-err Goes (Err x) e g = g

pub moves-err : (Goes : Bool → Type 0) (r : Result Outcome EngineError) → IsErr r → ((moved : Bool) × Goes moved) → AsTold Goes (told_by_moves r)
moves-err Goes (Ok o) e g = absurd cc
moves-err Goes (Err x) e g = g

-- a turn that was refused moved nothing
pub turn_told : (Goes : Bool → Type 0) (r : Result Bool EngineError) → IfOk r (λ b. b ≡ false) → Goes false → AsTold Goes (told_by_turn r)
turn_told Goes (Ok b) is g = rw is g
turn_told Goes (Err e) is g = (false, g)

-- an error, or a fault
pub moves_none : (Goes : Bool → Type 0) (r : Result Outcome EngineError) → IfOk r (λ o. told_by_outcome o ≡ None) → ((moved : Bool) × Goes moved) → AsTold Goes (told_by_moves r)
moves_none Goes (Ok o) is g = rw is g
moves_none Goes (Err x) is g = g

-- what holds, holds after any error
pub any_err : (P : Type 0) (r : Result Outcome EngineError) → P → OnErr r P
any_err P (Ok o) p = tt
any_err P (Err e) p = p

pub as-none : (Goes : Bool → Type 0) (told : Option Bool) → told ≡ None → ((moved : Bool) × Goes moved) → AsTold Goes told
as-none Goes told e g = rw e g

pub as_faulty : (Goes : Bool → Type 0) (o : Outcome) → is_fault o ≡ true → ((moved : Bool) × Goes moved) → AsTold Goes (told_by_outcome o)
as_faulty Goes Outcome.Idle e g = absurd cc
as_faulty Goes Outcome.Moved e g = absurd cc
as_faulty Goes (Outcome.Fault kind error) e g = g

-- neither is told of a fault
pub as_fault : (Goes : Bool → Type 0) (o : Outcome) → o ≢ Outcome.Idle → o ≢ Outcome.Moved → ((moved : Bool) × Goes moved) → AsTold Goes (told_by_outcome o)
as_fault Goes Outcome.Idle s m g = absurd (s refl)
as_fault Goes Outcome.Moved s m g = absurd (m refl)
as_fault Goes (Outcome.Fault kind error) s m g = g

-- PENDING TEXTS

-- all of a text is an end of it
pub whole_end : (text : List ℕ) → IsEndOf text text
whole_end text = ([], refl)

-- nothing is an end of any text
pub empty_end : (bytes text : List ℕ) → bytes ≡ [] → IsEndOf bytes text
empty_end bytes text none = (text, rw none (sym (append-nil text)))

-- an end of an end
pub end_end : (a b text : List ℕ) → IsEndOf a b → IsEndOf b text → IsEndOf a text
end_end a b text (gone, p) (before, q) = (before ++ gone, q ∙ ap (λ z. before ++ z) p ∙ sym (append_assoc before gone a))

end_either : (o : Option (List ℕ)) (a b c : List ℕ) → (IsEndOf c a → IsEndOf c b) → IsEndOf c (unwrap_or o a) → IsEndOf c (unwrap_or o b)
end_either None a b c f e = f e
end_either (Some text) a b c f e = e

-- what is pending after some steps and then others
pub end_then : (text_of : Event → Answer → Option (List ℕ)) (a b c : List ℕ) (earlier later : History) → IsEndOf b (last_text text_of a earlier) → IsEndOf c (last_text text_of b later) → IsEndOf c (last_text text_of a (later ++ earlier))
end_then text_of a b c earlier [] p q = end_end c b (last_text text_of a earlier) q p
end_then text_of a b c earlier (s ∷ later) p q = end_either (text_of s.event s.answer) (last_text text_of b later) (last_text text_of a (later ++ earlier)) c (end_then text_of a b c earlier later p) q
