-- What a step hands out is the outcome of the next command, and no other step hands it out.
use Rattle.std.proofs.Common.{◌≡◌, ℕ, ◌+◌, ◌<◌, true, [], ◌∷◌, ◌++◌, Option, Some, None, is_some, refl, sym, ap, ◌∙◌, inl, inr, arith}
use Rattle.std.proofs.lemmas.Bool.{cases_Bool, cases_lt, eqb-true, eq-eqb}
use Rattle.std.specs.Option.{unwrap_or}
use Rattle.resp_core.specs.Tree.{Tree, null_bulk}
use Rattle.resp_core.specs.Text.{text}
use Rattle.proxy_history.specs.Setting.{Setting}
use Rattle.proxy_history.specs.History.{History, Step, handed_count, is_handing}
use Rattle.proxy_history.specs.Past.{past}
use Rattle.proxy_history.specs.Outcome.{outcome}
use Rattle.proxy_history.specs.Cause.{own_cause}
use Rattle.proxy_history.specs.Legal.{IsLegal, MayFollow}
use Rattle.proxy_history.specs.Answer.{answer_to}
use Rattle.proxy_history.specs.HandingLaws.{HandsOut, Handing, IsHandedOnce}
use Rattle.proxy_history.specs.declared.answer.Answer.TheVariants as answer
use Rattle.proxy_history.specs.declared.event.Event.{Event}
use Rattle.proxy_history.specs.declared.event.Event.TheVariants.{Handed}
use Rattle.proxy_history.proofs.GrowthLemmas.{times_grows}
use Rattle.proxy_history.proofs.BeginningLemmas.{beginning}
use Rattle.proxy_history.proofs.handing.OrderLemmas.{has_outcome}
use Rattle.proxy_history.proofs.outcomes.OutcomesStayLemmas.{outcome_stays, stays}

by_outcome : (S : Setting) (later before : History) (s : Step) (c : ℕ) (o : Option Tree)
    → IsLegal S (later ++ s ∷ before) → MayFollow S (past S before) s → s.event ≡ Handed c
    → outcome c (handed_count c before) (past S before) ≡ o → is_some o ≡ true → HandsOut S later before s c
by_outcome S later before s c None legal m e q i = absurd cc
by_outcome S later before s c (Some v) legal m e q i =
    let next = outcome_stays S (past S before) s c (handed_count c before) v m.has_no_cause q in
    record {
      reply = v;
      had_come = q;
      stays = stays S later (s ∷ before) c (handed_count c before) v legal next;
      goes_out = m.is_answered ∙ ap (answer_to S (past S before)) e
          ∙ ap (λ o. answer.Bytes (text (unwrap_or o null_bulk))) q;
    }

pub handed_is_its_outcome : (S : Setting) (later before : History) (s : Step) (c : ℕ)
    → IsLegal S (later ++ s ∷ before) → s.event ≡ Handed c → HandsOut S later before s c
handed_is_its_outcome S later before s c legal e =
    let m = (beginning S later (s ∷ before) legal).1 in
    let n : own_cause S (past S before) (Handed c) ≡ None = rw e at m.has_no_cause in
    by_outcome S later before s c (outcome c (handed_count c before) (past S before)) legal m e refl (has_outcome S (past S before) c n)

-- ONCE

is_handed : (c : ℕ) (event : Event) → is_handing c event ≡ true → event ≡ Handed c
is_handed c (Handed conn) e = ap (λ z. Handed z) (eqb-true conn c e)
is_handed c _ e = absurd cc

one_more : (c : ℕ) (s : Step) (before : History) → s.event ≡ Handed c
    → handed_count c (s ∷ before) ≡ handed_count c before + 1
one_more c s before e =
    let t : is_handing c s.event ≡ true = ap (is_handing c) e ∙ eq-eqb c c refl in
    rw t refl

-- more are handed out after such a step than before it
fewer_before : (c : ℕ) (later : History) (s : Step) (before : History) → s.event ≡ Handed c
    → handed_count c before < handed_count c (later ++ s ∷ before)
fewer_before c [] s before e = omega (arith, one_more c s before e)
fewer_before c (t ∷ later) s before e = omega (arith, fewer_before c later s before e, times_grows (is_handing c) t (later ++ s ∷ before))

later_still : (c i : ℕ) (s : Step) (H : History) → Handing H c i → Handing (s ∷ H) c i
later_still c i s H x = record {
  later = s ∷ x.later;
  step = x.step;
  before = x.before;
  split = ap (λ z. s ∷ z) x.split;
  hands_out = x.hands_out;
  number_is = x.number_is;
}

handing_of : (H : History) (c i : ℕ) → i < handed_count c H → Handing H c i
handing_of [] c i l = absurd (omega (arith, l))
handing_of (s ∷ H) c i l = elim (cases_lt i (handed_count c H)) [
  | inl earlier ↦ later_still c i s H (handing_of H c i earlier)
  | inr late ↦ elim (cases_Bool (is_handing c s.event)) [
    | inl t ↦
        let e = is_handed c s.event t in
        record {
          later = [];
          step = s;
          before = H;
          split = refl;
          hands_out = e;
          number_is = omega (arith, l, late, one_more c s H e);
        }
    | inr f ↦ let same : handed_count c (s ∷ H) ≡ handed_count c H = rw f refl in absurd (omega (arith, l, late, same))
  ]
]

is_below : (H : History) (c i : ℕ) → Handing H c i → i < handed_count c H
is_below H c i x = omega (arith, fewer_before c x.later x.step x.before x.hands_out, x.number_is, ap (handed_count c) x.split)

-- two such steps with as many before them stand in one place
one_place : (c : ℕ) (l : History) (s : Step) (b l' : History) (s' : Step) (b' : History)
    → l ++ s ∷ b ≡ l' ++ s' ∷ b'
    → s.event ≡ Handed c → s'.event ≡ Handed c → handed_count c b ≡ handed_count c b' → (s ≡ s') × (b ≡ b')
one_place c [] s b [] s' b' e h h' n = (cc, cc)
one_place c [] s b (t ∷ l') s' b' e h h' n =
    let rest : b ≡ l' ++ s' ∷ b' = cc in
    absurd (omega (arith, fewer_before c l' s' b' h', ap (handed_count c) rest, n))
one_place c (t ∷ l) s b [] s' b' e h h' n =
    let rest : l ++ s ∷ b ≡ b' = cc in
    absurd (omega (arith, fewer_before c l s b h, ap (handed_count c) rest, n))
one_place c (t ∷ l) s b (t' ∷ l') s' b' e h h' n =
    let rest : l ++ s ∷ b ≡ l' ++ s' ∷ b' = cc in
    one_place c l s b l' s' b' rest h h' n

both_at : (H : History) (c i : ℕ) (x y : Handing H c i) → (x.step ≡ y.step) × (x.before ≡ y.before)
both_at H c i x y =
    one_place c x.later x.step x.before y.later y.step y.before (sym x.split ∙ y.split) x.hands_out y.hands_out (x.number_is ∙ sym y.number_is)

pub replies_go_out_once : (H : History) (c i : ℕ) → IsHandedOnce H c i
replies_go_out_once H c i = record {
  at_one = (handing_of H c i, is_below H c i);
  same_step = λ x y. (both_at H c i x y).0;
  same_place = λ x y. (both_at H c i x y).1;
}
