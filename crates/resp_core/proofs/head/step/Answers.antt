use Rattle.std.proofs.Common.{◌≡◌, ℕ, List, ◌∷◌, refl}
use Rattle.resp_core.specs.declared.error.Refusal.TheVariants.{BadLineEnd}
use Rattle.resp_core.specs.declared.head.Sized.{Sized}
use Rattle.resp_core.specs.declared.head.Found.{Found}
use Rattle.resp_core.specs.declared.head.Head.{Head}
use Rattle.resp_core.specs.declared.head.Head.TheVariants as heads
use Rattle.resp_core.specs.Tree.{Tree}
use Rattle.resp_core.specs.Reading.{Outcome, found, unfinished, refused, and_then, byte_at}
use Rattle.resp_core.specs.ResumedReading.{IsNullOf, head_at, found_at}
use Rattle.resp_core.proofs.unfinished.HeadLemmas.{steps_digits}
use Rattle.resp_core.proofs.head.step.Goals as goal

same_behind : (f g : List ℕ → Outcome Tree) → ((b : List ℕ) → f b ≡ g b) → (o : Outcome (Unit {0})) → and_then o (λ _ rest. f rest) ≡ and_then o (λ _ rest. g rest)
same_behind f g e (found u rest) = e rest
same_behind f g e unfinished = refl
same_behind f g e (refused r rest) = refl

at_return : (most left : ℕ) (s : Sized) (f : Found) (h : Head) (c : ℕ) → IsNullOf s f → h ≡ heads.Return s → c ≡ 13 → (cs : List ℕ) → head_at most left h (c ∷ cs) ≡ and_then (byte_at 10 (λ _. BadLineEnd) cs) (λ _ rest. found_at most left f rest)
unfolding byte_at
at_return most left s f h c n e g cs = rw (e, g) (same_behind _ (found_at most left f) (n most left).1 (byte_at 10 (λ _. BadLineEnd) cs))

pub returns-then-byte-eq13-clause-steps : goal.returns-then-byte-eq13-clause-steps
returns-then-byte-eq13-clause-steps c = at_return c.args.most c.args.left _ c.null_of.result c.args.head c.args.byte c.null_of.ensures c.in-Return.is c.if-byte-eq13.true

pub returns-then-byte-eq13-clause-good : goal.returns-then-byte-eq13-clause-good
returns-then-byte-eq13-clause-good c = (c.null_of.ensures c.args.most c.args.left).0

pub returns-else-byte-eq45-clause-steps : goal.returns-else-byte-eq45-clause-steps
returns-else-byte-eq45-clause-steps c = rw c.in-Length.is (steps_digits c.args.most c.args.left c.in-Length.sized c.args.byte c.step_length.result c.if-byte-eq45.false (c.step_length.ensures.steps c.args.left))

pub returns-else-byte-eq45-clause-good : goal.returns-else-byte-eq45-clause-good
returns-else-byte-eq45-clause-good c = c.step_length.ensures.good c.args.left (rw c.in-Length.is at c.requires.good)

pub returns-in-Digits-clause-steps : goal.returns-in-Digits-clause-steps
returns-in-Digits-clause-steps c = rw c.in-Digits.is (c.step_length-in-Digits.ensures.steps c.args.left)

pub returns-in-Digits-clause-good : goal.returns-in-Digits-clause-good
returns-in-Digits-clause-good c = c.step_length-in-Digits.ensures.good c.args.left (rw c.in-Digits.is at c.requires.good).0

pub returns-in-Number-clause-steps : goal.returns-in-Number-clause-steps
returns-in-Number-clause-steps c = rw c.in-Number.is (c.step_number.ensures.steps c.args.most c.args.left)

pub returns-in-Number-clause-good : goal.returns-in-Number-clause-good
returns-in-Number-clause-good c = c.step_number.ensures.good c.args.most c.args.left
