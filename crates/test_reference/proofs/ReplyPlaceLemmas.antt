-- The reply to a part stands in the place of the first part that is the same.
use Rattle.std.proofs.Common.{◌≡◌, ℕ, ◌+◌, List, [], ◌∷◌, Option, Some, None, refl, ap, ◌∙◌, inl, inr, add-one}
use Rattle.std.specs.Prelude.{option_map, slice_get}
use Rattle.std.specs.Option.{option_and_then}
use Rattle.std.specs.List.{find, zip}
use Rattle.std.proofs.lemmas.Bool.{cases_Bool}
use Rattle.resp_core.specs.Tree.{Tree}
use Rattle.proxy_history.specs.Part.{Part, Past, is_same}
use Rattle.proxy_history.specs.Waiting.{sent_to}
use Rattle.proxy_history.specs.Replies.{replies_from}
use Rattle.proxy_history.specs.Value.{reply_to}
use Rattle.test_reference.specs.Scan.{place_in}

nowhere : (o : Option ℕ) → option_and_then (λ k. slice_get {X = Tree} [] k) o ≡ None
nowhere None = refl
nowhere (Some k) = refl

one_further : (v : Tree) (vs : List Tree) (o : Option ℕ) → option_and_then (λ k. slice_get (v ∷ vs) k) (option_map (λ k. k + 1) o) ≡ option_and_then (λ k. slice_get vs k) o
one_further v vs None = refl
one_further v vs (Some k) = rw (add-one) refl

pub reply_in_place : (p : Part) (ps : List Part) (vs : List Tree) → option_and_then (λ k. slice_get vs k) (place_in p ps) ≡ option_map (λ r. r.1) (find (λ r. is_same p r.0) (zip ps vs))
reply_in_place p [] vs = refl
reply_in_place p (q ∷ ps) [] = nowhere (place_in p (q ∷ ps))
reply_in_place p (q ∷ ps) (v ∷ vs) = elim (cases_Bool (is_same p q)) [
  | inl e ↦ rw e refl
  | inr e ↦ rw e (one_further v vs (place_in p ps) ∙ reply_in_place p ps vs)
]

pub reply_to-is : (p : Part) (host : ℕ) (x : Past) (o : Option ℕ) → o ≡ place_in p (sent_to host p.epoch x) → option_and_then (λ k. slice_get (replies_from host p.epoch x.steps) k) o ≡ reply_to p host x
reply_to-is p host x o e =
    ap (λ z. option_and_then (λ k. slice_get (replies_from host p.epoch x.steps) k) z) e ∙ reply_in_place p (sent_to host p.epoch x) (replies_from host p.epoch x.steps)
