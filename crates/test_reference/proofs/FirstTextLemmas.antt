-- The text of the oldest part that waits.
use Rattle.std.proofs.Common.{◌≡◌, List, [], ◌∷◌, Some, None, sym, ap, ◌∙◌, ℕ, refl}
use Rattle.proxy_history.specs.Part.{Part}
use Rattle.proxy_history.specs.Answer.{text_of_first}
use Rattle.test_reference.specs.Scan.{first_of}
use Rattle.proxy_history.specs.declared.answer.Answer.TheVariants as answers

pub text_of_some : (ps : List Part) (p : Part) → first_of ps ≡ Some p → p.text ≡ text_of_first ps
text_of_some [] p e = absurd cc
text_of_some (q ∷ ps) p e = let is : q ≡ p = cc in sym (ap (λ (z : Part). z.text) is)

pub text_of_none : (ps : List Part) → first_of ps ≡ None → [] ≡ text_of_first ps
text_of_none [] e = refl
text_of_none (q ∷ ps) e = absurd cc

pub sent_same : (e e' n n' : ℕ) (t t' : List ℕ) → e ≡ e' → n ≡ n' → t ≡ t' → answers.Sent e n t ≡ answers.Sent e' n' t'
sent_same e e' n n' t t' a b c = ap (λ z. answers.Sent z n t) a ∙ ap (λ z. answers.Sent e' z t) b ∙ ap (λ z. answers.Sent e' n' z) c
