-- After the close of a connection no event of it stands, and it gets nothing more.
use Rattle.std.proofs.Common.{◌≡◌, ℕ, true, false, not, ◌==◌, nat_lt, [], ◌∷◌, ◌++◌, None, refl, ◌∙◌}
use Rattle.std.proofs.lemmas.Bool.{and_parts, eqb-true, not-true, not-false, both_ways, or_right, or_from, false_from_ne_true}
use Rattle.std.proofs.lemmas.List.{append-nil}
use Rattle.proxy_history.specs.Setting.{Setting}
use Rattle.proxy_history.specs.History.{History, has, openings, is_closed, is_open, is_closing}
use Rattle.proxy_history.specs.Part.{Past}
use Rattle.proxy_history.specs.Past.{past}
use Rattle.proxy_history.specs.Cause.{own_cause, causes}
use Rattle.proxy_history.specs.Legal.{IsLegal}
use Rattle.proxy_history.specs.Answer.{answer_to}
use Rattle.proxy_history.specs.Output.{handed_text, transcript}
use Rattle.proxy_history.specs.OwnSteps.{is_of_connection}
use Rattle.proxy_history.specs.declared.event.Event.{Event}
use Rattle.proxy_history.specs.declared.event.Event.TheVariants.{Arrived, Finished, Handed, Closed}
use Rattle.proxy_history.proofs.causes.NoCauseLemmas.{are_false}

still_closed : (c : ℕ) (later before : History) → is_closed c before ≡ true → is_closed c (later ++ before) ≡ true
still_closed c [] before e = e
still_closed c (s ∷ later) before e = or_right (is_closing c s.event) _ (still_closed c later before e)

-- an event that is accepted is not of a closed connection
not_open : (x : Past) (c conn : ℕ) → is_closed c x.steps ≡ true → not (is_open conn x.steps) ≡ false → (conn == c) ≡ false
not_open x c conn k n = false_from_ne_true (conn == c) (λ t.
    let b = and_parts (nat_lt conn (openings x.steps)) (not (is_closed conn x.steps)) (not-false (is_open conn x.steps) n) in
    both_ways (is_closed conn x.steps) (not-true _ b.1) (rw (eqb-true conn c t) k))

not_of : (S : Setting) (x : Past) (c : ℕ) (event : Event) → is_closed c x.steps ≡ true → own_cause S x event ≡ None → is_of_connection c event ≡ false
not_of S x c (Arrived conn request) k n = not_open x c conn k (are_false (causes S x (Arrived conn request)) n).0
not_of S x c (Finished conn) k n = not_open x c conn k (are_false (causes S x (Finished conn)) n).0
not_of S x c (Handed conn) k n = not_open x c conn k (are_false (causes S x (Handed conn)) n).0
not_of S x c (Closed conn) k n = not_open x c conn k (are_false (causes S x (Closed conn)) n).0
not_of S x c _ k n = refl

no_text : (S : Setting) (x : Past) (c : ℕ) (event : Event) → is_of_connection c event ≡ false → handed_text c event (answer_to S x event) ≡ []
no_text S x c (Handed conn) f = rw f refl
no_text S x c _ f = refl

pub closed_gets_nothing : (S : Setting) (later before : History) (c : ℕ) → IsLegal S (later ++ before) → is_closed c before ≡ true
    → (has (is_of_connection c) later ≡ false) × (transcript c (later ++ before) ≡ transcript c before)
closed_gets_nothing S [] before c p k = (refl, refl)
closed_gets_nothing S (s ∷ later) before c p k =
    let a = closed_gets_nothing S later before c p.0 k in
    let f = not_of S (past S (later ++ before)) c s.event (still_closed c later before k) p.1.has_no_cause in (
      or_from (is_of_connection c s.event) (has (is_of_connection c) later) f a.0,
      rw (p.1.is_answered, no_text S (past S (later ++ before)) c s.event f) (append-nil _ ∙ a.1),
    )
