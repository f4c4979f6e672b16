-- Steps of one engine are nobody else's.
use Rattle.std.proofs.Common.{◌≡◌, ◌≢◌, ◌∙◌, ◌==◌, ◌≤◌, ℕ, Bool, true, false, List, [], ◌∷◌, ap, arith, drop, filter, length, refl, sym, subst, eqb-true}
use Rattle.std.proofs.lemmas.Bool.{ne_eqb}
use Rattle.resp_core.specs.Tree.{Tree}
use Rattle.proxy_history.specs.History.{Step}
use Rattle.proxy_history.specs.OwnSteps.{is_connection_step, is_of_host}
use Rattle.proxy_history.specs.declared.event.Event.{Event}
use Rattle.proxy_history.specs.declared.answer.Answer.{Answer}
use Rattle.proxy_history.proofs.CallerLemmas as history
use Rattle.proxy_engines.specs.Host.{IsOnLink}
use Rattle.proxy_engines.specs.Laws.{ClientsLeaveOthers, HostsLeaveOthers, OthersLeaveHosts}

-- WHOSE A STEP IS

same_number : (a c : ℕ) → (a == c) ≡ true → (d : ℕ) → d ≢ c → (a == d) ≡ false
same_number a c is d other = ne_eqb a d (λ e. other (sym e ∙ eqb-true a c is))

of_no_host : (c h : ℕ) (event : Event) (a : Answer) → is_connection_step c event a ≡ true → is_of_host h event ≡ false
of_no_host c h (Event.Taken host) a is = absurd cc
of_no_host c h (Event.Answered host e v t) a is = absurd cc
of_no_host c h (Event.Failed host e k t) a is = absurd cc
of_no_host c h _ a is = refl

of_no_other : (c d : ℕ) → d ≢ c → (event : Event) (a : Answer) → is_connection_step c event a ≡ true → is_connection_step d event a ≡ false
of_no_other c d other Event.Opened (Answer.Opened conn) is = by (conn == c) refl
  where
    by : (b : Bool) → (conn == c) ≡ b → is_connection_step d Event.Opened (Answer.Opened conn) ≡ false
    by true e = rw (same_number conn c e d other) refl
    by false e = let no : is_connection_step c Event.Opened (Answer.Opened conn) ≡ false = rw e refl in let clash : true ≡ false = sym is ∙ no in absurd cc
of_no_other c d other (Event.Arrived conn r) a is = same_number conn c is d other
of_no_other c d other (Event.Finished conn) a is = same_number conn c is d other
of_no_other c d other (Event.Handed conn) a is = same_number conn c is d other
of_no_other c d other (Event.Closed conn) a is = same_number conn c is d other
of_no_other c d other _ _ is = absurd cc

of_no_connection : (h c : ℕ) (event : Event) (a : Answer) → is_of_host h event ≡ true → is_connection_step c event a ≡ false
of_no_connection h c (Event.Taken host) a is = refl
of_no_connection h c (Event.Answered host e v t) a is = refl
of_no_connection h c (Event.Failed host e k t) a is = refl
of_no_connection h c _ a is = absurd cc

of_no_other_host : (h g : ℕ) → g ≢ h → (event : Event) → is_of_host h event ≡ true → is_of_host g event ≡ false
of_no_other_host h g other (Event.Taken host) is = same_number host h is g other
of_no_other_host h g other (Event.Answered host e v t) is = same_number host h is g other
of_no_other_host h g other (Event.Failed host e k t) is = same_number host h is g other
of_no_other_host h g other _ is = absurd cc

-- LISTS

module _ {X : Type 0} (p q : X → Bool) where
  filter-length : (xs : List X) → length (filter p xs) ≤ length xs
  filter-length [] = omega arith
  filter-length (x ∷ xs) = by (p x) refl (filter-length xs)
    where
      by : (b : Bool) → p x ≡ b → length (filter p xs) ≤ length xs → length (filter p (x ∷ xs)) ≤ length (x ∷ xs)
      by true e few = rw e (omega (arith, few))
      by false e few = rw e (omega (arith, few))

  -- where all are of one kind, and none of that kind is of another, none is of the other
  none_of : ((x : X) → p x ≡ true → q x ≡ false) → (xs : List X) → filter p xs ≡ xs → filter q xs ≡ []
  none_of apart [] all = refl
  none_of apart (x ∷ xs) all = by (p x) refl (none_of apart xs) (filter-length xs)
    where
      by : (b : Bool) → p x ≡ b → (filter p xs ≡ xs → filter q xs ≡ []) → length (filter p xs) ≤ length xs → filter q (x ∷ xs) ≡ []
      by true e rest few =
          let same : x ∷ filter p xs ≡ x ∷ xs = rw e at all in
          rw (apart x e) (rest (ap (drop 1) same))
      by false e rest few =
          let short : filter p xs ≡ x ∷ xs = rw e at all in
          absurd (omega (arith, ap length short, few))

-- LAWS

pub clients_leave_others : ClientsLeaveOthers
clients_leave_others c steps all = (
  λ d other. none_of (λ (s : Step). is_connection_step c s.event s.answer) (λ (s : Step). is_connection_step d s.event s.answer) (λ s is. of_no_other c d other s.event s.answer is) steps all,
  λ h. none_of (λ (s : Step). is_connection_step c s.event s.answer) (λ (s : Step). is_of_host h s.event) (λ s is. of_no_host c h s.event s.answer is) steps all,
)

pub hosts_leave_others : HostsLeaveOthers
hosts_leave_others h steps all = (
  λ g other. none_of (λ (s : Step). is_of_host h s.event) (λ (s : Step). is_of_host g s.event) (λ s is. of_no_other_host h g other s.event is) steps all,
  λ c. none_of (λ (s : Step). is_of_host h s.event) (λ (s : Step). is_connection_step c s.event s.answer) (λ s is. of_no_connection h c s.event s.answer is) steps all,
)

pub others_leave_hosts : OthersLeaveHosts
others_leave_hosts l k H later taken b others c =
    let same = history.SameOfHost-append l.host later H others in
    record {
      out_is = c.out_is ∙ sym (same.same_upstream l.epoch);
      link_is = subst (λ (ts : List Tree). IsOnLink k ts taken b) (sym (same.same_replies l.epoch)) c.link_is;
      epoch_is = c.epoch_is ∙ sym same.same_epoch;
      none_sent = λ s e below. same.same_upstream e ∙ c.none_sent s e below;
      none_came = λ e below. same.same_replies e ∙ c.none_came e below;
    }
