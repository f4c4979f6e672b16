-- What a pass sees, and the history of it.
use Rattle.std.proofs.Common.{◌≡◌, ◌↔◌, ◌+◌, Bool, true, false, ◌==◌, ◌||◌, List, [], ◌∷◌, ◌++◌, filter, count_by, cond, refl, sym, ap, ◌∙◌, subst, inl, inr, arith}
use Rattle.std.specs.List.{flat_map, list_any}
use Rattle.std.proofs.lemmas.Bool.{cases_Bool}
use Rattle.std.proofs.lemmas.List.{append-nil, reverse-append, reverse-reverse, length-reverse}
use Rattle.std.proofs.lemmas.List.Elements.{filter-append}
use Rattle.std.proofs.lemmas.List.Sums.{sum_by-cons}
use Rattle.proxy_history.specs.Setting.{Setting}
use Rattle.proxy_history.specs.History.{History, Step, times, has, request_by}
use Rattle.proxy_history.specs.Replies.{reply_by}
use Rattle.proxy_history.specs.Past.{past}
use Rattle.proxy_history.specs.Legal.{IsLegal, MayFollow}
use Rattle.proxy_history.specs.OwnSteps.{is_connection_step, is_of_host}
use Rattle.proxy_history.specs.SeenSteps.{history_of_seen}
use Rattle.proxy_history.specs.SeenStepsLaws.{OrdersAgree, IsReadInOrder}
use Rattle.proxy_history.specs.declared.event.Event.{Event}
use Rattle.proxy_history.proofs.BeginningLemmas.{beginning}
use Rattle.proxy_history.proofs.ReadingLemmas.{yield_of, handed_text_of, sent_text_of, transcript-yield_of, requests-yield_of, upstream-yield_of, came-yield_of, yield_of-append, times-append, has-append}

-- TWO ORDERS

pub history_of_seen-append : (seen more : List Step)
    → history_of_seen (seen ++ more) ≡ history_of_seen more ++ history_of_seen seen
history_of_seen-append seen more = reverse-append seen more

pub history_of_seen-push : (seen : List Step) (s : Step)
    → history_of_seen (seen ++ s ∷ []) ≡ s ∷ history_of_seen seen
history_of_seen-push seen s = history_of_seen-append seen (s ∷ [])

-- the oldest step stands last in the history
history_of_seen-cons : (s : Step) (seen : List Step)
    → history_of_seen (s ∷ seen) ≡ history_of_seen seen ++ s ∷ []
history_of_seen-cons s seen = history_of_seen-append (s ∷ []) seen

pub orders_hold_the_same : (seen more : List Step) (H : History) → OrdersAgree seen more H
orders_hold_the_same seen more H = record {
  there = reverse-reverse H;
  back = reverse-reverse seen;
  same_length = length-reverse seen;
  next = history_of_seen-push seen;
  longer = history_of_seen-append seen more;
}

-- LEGAL

pub seen_steps_follow : (S : Setting) (seen : List Step) (s : Step)
    → IsLegal S (history_of_seen (seen ++ s ∷ [])) ↔ (IsLegal S (history_of_seen seen) × MayFollow S (past S (history_of_seen seen)) s)
seen_steps_follow S seen s =
    let e = history_of_seen-push seen s in
    (λ legal. subst (IsLegal S) e legal, λ both. subst (IsLegal S) (sym e) both)

pub seen_beginnings_are_legal : (S : Setting) (seen more : List Step)
    → IsLegal S (history_of_seen (seen ++ more)) → IsLegal S (history_of_seen seen)
seen_beginnings_are_legal S seen more legal =
    beginning S (history_of_seen more) (history_of_seen seen) (subst (IsLegal S) (history_of_seen-append seen more) legal)

-- READ IN ORDER

yield_of-history_of_seen : {X : Type 0} (f : Step → List X) (seen : List Step)
    → yield_of f (history_of_seen seen) ≡ flat_map f seen
yield_of-history_of_seen f [] = refl
yield_of-history_of_seen f (s ∷ seen) =
    ap (yield_of f) (history_of_seen-cons s seen) ∙ yield_of-append f (history_of_seen seen) (s ∷ [])
    ∙ ap (λ z. f s ++ z) (yield_of-history_of_seen f seen)

times-history_of_seen : (is : Event → Bool) (seen : List Step)
    → times is (history_of_seen seen) ≡ count_by (λ (s : Step). is s.event) seen
times-history_of_seen is [] = refl
times-history_of_seen is (s ∷ seen) =
    let first : times is (s ∷ []) ≡ cond (is s.event) 1 0 = one (is s.event) in
    omega (arith, ap (times is) (history_of_seen-cons s seen), times-append is (history_of_seen seen) (s ∷ []), times-history_of_seen is seen, first, sum_by-cons (λ (t : Step). cond (is t.event) 1 0) s seen)
  where
    one : (b : Bool) → cond b (0 + 1) 0 ≡ cond b 1 0
    one true = refl
    one false = refl

has-history_of_seen : (is : Event → Bool) (seen : List Step)
    → has is (history_of_seen seen) ≡ list_any (λ (s : Step). is s.event) seen
has-history_of_seen is [] = refl
has-history_of_seen is (s ∷ seen) =
    ap (has is) (history_of_seen-cons s seen) ∙ has-append is (history_of_seen seen) (s ∷ [])
    ∙ ap (λ z. z || (is s.event || false)) (has-history_of_seen is seen)
    ∙ other_way (list_any (λ (t : Step). is t.event) seen) (is s.event)
  where
    other_way : (a b : Bool) → (a || (b || false)) ≡ (b || a)
    other_way true true = refl
    other_way true false = refl
    other_way false true = refl
    other_way false false = refl

filter-history_of_seen : (own : Step → Bool) (seen : List Step)
    → filter own (history_of_seen seen) ≡ history_of_seen (filter own seen)
filter-history_of_seen own [] = refl
filter-history_of_seen own (s ∷ seen) =
    let both =
    ap (filter own) (history_of_seen-cons s seen)
    ∙ filter-append own (history_of_seen seen) (s ∷ [])
    ∙ ap (λ z. z ++ filter own (s ∷ [])) (filter-history_of_seen own seen) in
    let rest = filter own seen in
    both ∙ elim (cases_Bool (own s)) [
      | inl t ↦ rw t (sym (history_of_seen-cons s rest))
      | inr f ↦ rw f (append-nil (history_of_seen rest))
    ]

pub seen_is_read_in_order : (seen : List Step) → IsReadInOrder seen
seen_is_read_in_order seen = record {
  transcript_is = λ c. transcript-yield_of c (history_of_seen seen)
      ∙ yield_of-history_of_seen (handed_text_of c) seen;
  requests_are = λ c. requests-yield_of c (history_of_seen seen)
      ∙ yield_of-history_of_seen (λ (s : Step). request_by c s.event) seen;
  upstream_is = λ h e. upstream-yield_of h e (history_of_seen seen)
      ∙ yield_of-history_of_seen (sent_text_of h e) seen;
  replies_are = λ h e. came-yield_of h e (history_of_seen seen)
      ∙ yield_of-history_of_seen (λ (s : Step). reply_by h e s.event) seen;
  times_are = λ is. times-history_of_seen is seen;
  has_is = λ is. has-history_of_seen is seen;
  connection_steps_are = λ c. filter-history_of_seen (λ (s : Step). is_connection_step c s.event s.answer) seen;
  host_steps_are = λ h. filter-history_of_seen (λ (s : Step). is_of_host h s.event) seen;
  pass_steps_are = λ pass. filter-history_of_seen (λ (s : Step). s.pass == pass) seen;
}
