-- No more replies come than parts were sent.
use Rattle.std.proofs.Common.{◌≡◌, ℕ, ◌-◌, ◌<◌, ◌≤◌, ◌==◌, ◌&&◌, [], ◌∷◌, ◌++◌, length, filter, None, sym, ap, ◌∙◌, inl, inr, arith}
use Rattle.std.proofs.lemmas.Bool.{cases_Bool, eqb-true, eqb-false, and_parts}
use Rattle.std.proofs.lemmas.List.{append-nil, length-append}
use Rattle.std.proofs.lemmas.List.Elements.{filter-append}
use Rattle.resp_core.specs.declared.value.Value.{Value}
use Rattle.resp_core.specs.Value.{tree_of}
use Rattle.proxy_history.specs.Setting.{Setting}
use Rattle.proxy_history.specs.History.{History, Step, epoch}
use Rattle.proxy_history.specs.Replies.{replies_from, reply_by}
use Rattle.proxy_history.specs.Part.{Past, is_of}
use Rattle.proxy_history.specs.Waiting.{flying_count, sent_to, sent_by}
use Rattle.proxy_history.specs.Past.{past, after}
use Rattle.proxy_history.specs.Cause.{own_cause, causes}
use Rattle.proxy_history.specs.Legal.{IsLegal}
use Rattle.proxy_history.specs.declared.event.Event.{Event}
use Rattle.proxy_history.specs.declared.event.Event.TheVariants.{Answered}
use Rattle.proxy_history.proofs.causes.NoCauseLemmas.{are_false, is_current}

-- where a reply is accepted some part flies
pub some_fly : (S : Setting) (x : Past) (host e t : ℕ) (value : Value) → own_cause S x (Answered host e value t) ≡ None → 0 < flying_count host x
some_fly S x host e t value n =
    let (_, (_, (_, (some_flying, _)))) = are_false (causes S x (Answered host e value t)) n in
    let ne : flying_count host x ≡ 0 → ⊥ = eqb-false (flying_count host x) 0 some_flying in
    omega (arith, ne)

sent_grows : (S : Setting) (x : Past) (s : Step) (h e : ℕ) → length (sent_to h e x) ≤ length (sent_to h e (after S s x))
sent_grows S x s h e =
    let both : sent_to h e (after S s x) ≡ sent_to h e x ++ filter (is_of h e) (sent_by x s.event) = filter-append (is_of h e) x.sent (sent_by x s.event) in
    omega (arith, ap length both, length-append (sent_to h e x) (filter (is_of h e) (sent_by x s.event)))

came_by : (S : Setting) (x : Past) (event : Event) (h e : ℕ) → own_cause S x event ≡ None → length (replies_from h e x.steps) ≤ length (sent_to h e x) → length (replies_from h e x.steps ++ reply_by h e event) ≤ length (sent_to h e x)
came_by S x (Answered host ep value t) h e n l = elim (cases_Bool ((host == h) && (ep == e))) [
  | inl i ↦
      let a = and_parts (host == h) (ep == e) i in
      let same_host : host ≡ h = eqb-true host h a.0 in
      let same_epoch : epoch h x.steps ≡ e = ap (λ k. epoch k x.steps) (sym same_host) ∙ sym (is_current S x host ep t value n) ∙ eqb-true ep e a.1 in
      let fly : 0 < length (sent_to h e x) - length (replies_from h e x.steps) = rw (same_host, same_epoch) at (some_fly S x host ep t value n) in
      rw i (omega (arith, fly, length-append (replies_from h e x.steps) (tree_of value ∷ [])))
  | inr i ↦ rw (i, append-nil (replies_from h e x.steps)) l
]
came_by S x _ h e n l = rw (append-nil (replies_from h e x.steps)) l

pub replies_were_asked : (S : Setting) (H : History) (h e : ℕ) → IsLegal S H → length (replies_from h e H) ≤ length (sent_to h e (past S H))
replies_were_asked S [] h e legal = omega arith
replies_were_asked S (s ∷ before) h e legal =
    omega (arith, came_by S (past S before) s.event h e legal.1.has_no_cause (replies_were_asked S before h e legal.0), sent_grows S (past S before) s h e)
