-- What is handed out is the outcomes, in order.
use Rattle.std.proofs.Common.{◌≡◌, ℕ, zero, suc, ◌+◌, ◌<◌, ◌≤◌, true, ◌==◌, nat_lt, List, [], ◌∷◌, ◌++◌, Option, Some, None, is_some, refl, sym, ap, ◌∙◌, inl, inr, arith, if◌then◌else◌}
use Rattle.std.specs.Option.{unwrap_or}
use Rattle.std.proofs.lemmas.Bool.{and_parts, cases_Bool, eqb-true, not-false, cases_lt}
use Rattle.std.proofs.lemmas.List.{append-nil}
use Rattle.resp_core.specs.Tree.{Tree, null_bulk}
use Rattle.resp_core.specs.Text.{text}
use Rattle.proxy_history.specs.Setting.{Setting}
use Rattle.proxy_history.specs.History.{History, handed_count, is_handing, Step}
use Rattle.proxy_history.specs.Part.{Past}
use Rattle.proxy_history.specs.Past.{past, after}
use Rattle.proxy_history.specs.Outcome.{outcome}
use Rattle.proxy_history.specs.Cause.{own_cause, causes, is_ready, commands_left}
use Rattle.proxy_history.specs.Legal.{IsLegal}
use Rattle.proxy_history.specs.Answer.{answer_to}
use Rattle.proxy_history.specs.Output.{handed_text, transcript}
use Rattle.proxy_history.specs.Laws.{first_outcomes, HaveCome}
use Rattle.proxy_history.specs.declared.event.Event.{Event}
use Rattle.proxy_history.specs.declared.event.Event.TheVariants.{Handed}
use Rattle.proxy_history.proofs.causes.NoCauseLemmas.{are_false}
use Rattle.proxy_history.proofs.outcomes.OutcomesStayLemmas.{outcome_stays}

-- an outcome that has come is the same one step later
come_stays : (S : Setting) (x : Past) (s : Step) (c i : ℕ) → own_cause S x s.event ≡ None → is_some (outcome c i x) ≡ true → outcome c i (after S s x) ≡ outcome c i x
come_stays S x s c i n e = go (outcome c i x) refl e
  where
    go : (o : Option Tree) → outcome c i x ≡ o → is_some o ≡ true → outcome c i (after S s x) ≡ outcome c i x
    go None q f = absurd cc
    go (Some v) q f = outcome_stays S x s c i v n q ∙ sym q

have_come_stays : (S : Setting) (x : Past) (s : Step) (c n : ℕ) → own_cause S x s.event ≡ None → HaveCome x c n → HaveCome (after S s x) c n
have_come_stays S x s c n q h = record { each = λ i l. rw (come_stays S x s c i q (h.each i l)) (h.each i l) }

first_stay : (S : Setting) (x : Past) (s : Step) (c n : ℕ) → own_cause S x s.event ≡ None → HaveCome x c n → first_outcomes (after S s x) c n ≡ first_outcomes x c n
first_stay S x s c zero q h = refl
first_stay S x s c (suc n) q h =
    rw (first_stay S x s c n q (record { each = λ i l. h.each i (omega (arith, l)) }), come_stays S x s c n q (h.each n (omega arith))) refl

one_more : (x : Past) (c n : ℕ) → HaveCome x c n → is_some (outcome c n x) ≡ true → HaveCome x c (n + 1)
one_more x c n h e = record { each = λ i l. elim (cases_lt i n) [ inl b ↦ h.each i b | inr b ↦ rw (is_n i l b) e ] }
  where
    is_n : (i : ℕ) → i < n + 1 → n ≤ i → i ≡ n
    is_n i l b = omega (arith, l, b)

-- who is handed something has an outcome
pub has_outcome : (S : Setting) (x : Past) (c : ℕ) → own_cause S x (Handed c) ≡ None → is_some (outcome c (handed_count c x.steps) x) ≡ true
has_outcome S x c n =
    let a = are_false (causes S x (Handed c)) n in
    (and_parts (nat_lt 0 (commands_left c x)) (is_some (outcome c (handed_count c x.steps) x)) (not-false (is_ready c x) a.1.0)).1

abbrev InOrder : Setting → Past → Step → ℕ → List ℕ → Type 0
InOrder S x s c t = (t ++ handed_text c s.event s.answer ≡ first_outcomes (after S s x) c (handed_count c (s ∷ x.steps))) × HaveCome (after S s x) c (handed_count c (s ∷ x.steps))

suc_is : (n : ℕ) → n + 1 ≡ suc n
suc_is n = omega arith

-- the next outcome is handed out
handed_now : (S : Setting) (x : Past) (s : Step) (c : ℕ) → own_cause S x s.event ≡ None → own_cause S x (Handed c) ≡ None → HaveCome x c (handed_count c x.steps)
    → (first_outcomes x c (handed_count c x.steps) ++ text (unwrap_or (outcome c (handed_count c x.steps) x) null_bulk) ≡ first_outcomes (after S s x) c (handed_count c x.steps + 1)) × HaveCome (after S s x) c (handed_count c x.steps + 1)
handed_now S x s c n m h =
    let more = one_more x c (handed_count c x.steps) h (has_outcome S x c m) in
    (sym (first_stay S x s c (handed_count c x.steps + 1) n more ∙ rw (suc_is (handed_count c x.steps)) refl), have_come_stays S x s c (handed_count c x.steps + 1) n more)

nothing_now : (S : Setting) (x : Past) (s : Step) (c : ℕ) → own_cause S x s.event ≡ None → HaveCome x c (handed_count c x.steps)
    → (first_outcomes x c (handed_count c x.steps) ++ [] ≡ first_outcomes (after S s x) c (handed_count c x.steps)) × HaveCome (after S s x) c (handed_count c x.steps)
nothing_now S x s c n h = (append-nil _ ∙ sym (first_stay S x s c (handed_count c x.steps) n h), have_come_stays S x s c (handed_count c x.steps) n h)

by_event : (S : Setting) (x : Past) (s : Step) (c : ℕ) (event : Event) → own_cause S x s.event ≡ None → own_cause S x event ≡ None → HaveCome x c (handed_count c x.steps)
    → (first_outcomes x c (handed_count c x.steps) ++ handed_text c event (answer_to S x event) ≡ first_outcomes (after S s x) c (if is_handing c event then handed_count c x.steps + 1 else handed_count c x.steps))
    × HaveCome (after S s x) c (if is_handing c event then handed_count c x.steps + 1 else handed_count c x.steps)
by_event S x s c (Handed conn) n m h = elim (cases_Bool (conn == c)) [
  | inl t ↦ rw (t, eqb-true conn c t) (handed_now S x s c n (rw (eqb-true conn c t) at m) h)
  | inr f ↦ rw (f) (nothing_now S x s c n h)
]
by_event S x s c _ n m h = nothing_now S x s c n h

pub in_order : (S : Setting) (H : History) (c : ℕ) → IsLegal S H → (transcript c H ≡ first_outcomes (past S H) c (handed_count c H)) × HaveCome (past S H) c (handed_count c H)
in_order S [] c p = (refl, record { each = λ i l. absurd (omega (arith, l)) })
in_order S (s ∷ before) c p =
    let a = in_order S before c p.0 in
    let b = by_event S (past S before) s c s.event p.1.has_no_cause p.1.has_no_cause a.1 in (
      ap (λ t. transcript c before ++ handed_text c s.event t) p.1.is_answered
          ∙ ap (λ t. t ++ handed_text c s.event (answer_to S (past S before) s.event)) a.0 ∙ b.0,
      b.1,
    )
