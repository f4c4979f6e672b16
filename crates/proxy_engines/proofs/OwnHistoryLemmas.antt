-- The steps of one caller, where it made one more.
use Rattle.std.proofs.Common.{◌≡◌, ◌∙◌, ◌≤◌, ◌==◌, ℕ, Bool, List, [], ◌∷◌, ◌++◌, length, filter, ap, append-nil, refl, sym, arith}
use Rattle.ticket_gate.specs.Journal.{steps_of}
use Rattle.proxy_history.specs.History.{Step}
use Rattle.proxy_history.specs.Setting.{max_steps}
use Rattle.proxy_history.specs.SeenSteps.{history_of_seen}
use Rattle.proxy_history.specs.OwnSteps.{is_connection_step, connection_steps}
use Rattle.proxy_core.specs.CoreTurns.{seen_of_connection}
use Rattle.proxy_history.specs.declared.event.Event.{Event}
use Rattle.proxy_history.specs.declared.answer.Answer.{Answer}
use Rattle.proxy_history.proofs.CallerLemmas as history
use Rattle.proxy_engines.specs.Turns.{CoreTurnFacts, KeepsTurns, own_steps}
use Rattle.proxy_engines.proofs.HostMoves.{starts_then}
use Rattle.journal_core.specs.Journal.{step_by}

-- one step more of the pass
pub own_steps-push : (pass : ℕ) (before after : List Step) (event : Event) (answer : Answer) → steps_of pass after ≡ steps_of pass before ++ step_by pass event answer ∷ []
    → own_steps pass after ≡ step_by pass event answer ∷ own_steps pass before
own_steps-push pass before after event answer is = ap history_of_seen is ∙ history.history_of_seen-push (steps_of pass before) (step_by pass event answer)

length-filter : {X : Type 0} (p : X → Bool) (xs : List X) → length (filter p xs) ≤ length xs
length-filter p [] = omega arith
length-filter p (x ∷ xs) = grind (arith, length-filter p xs)

-- no pass has more steps than there are
pub length-own_steps : (pass : ℕ) (seen : List Step) → length seen ≤ max_steps → length (own_steps pass seen) ≤ max_steps
length-own_steps pass seen few =
    let own = steps_of pass seen in
    let same : length (own_steps pass seen) ≡ length own = (history.OrdersAgree-seen own [] []).same_length in
    omega (arith, few, same, length-filter (λ (s : Step). s.pass == pass) seen)

filter-append_first : {X : Type 0} (p : X → Bool) (xs ys : List X) → filter p (xs ++ ys) ≡ [] → filter p xs ≡ []
filter-append_first p [] ys e = refl
filter-append_first p (x ∷ xs) ys e = grind (arith, filter-append_first p xs ys)

filter-none : {X : Type 0} (p q : X → Bool) (xs : List X) → filter p xs ≡ [] → filter p (filter q xs) ≡ []
filter-none p q [] e = refl
filter-none p q (x ∷ xs) e = grind (arith, filter-none p q xs)

-- a connection of which nothing was seen has no own steps
pub connection_steps-own_steps : (c pass : ℕ) (before between : List Step) → seen_of_connection c (before ++ between) ≡ [] → connection_steps c (own_steps pass before) ≡ []
connection_steps-own_steps c pass before between none =
    let is_own : Step → Bool = λ s. is_connection_step c s.event s.answer in
    (history.IsReadInOrder-seen (steps_of pass before)).connection_steps_are c
    ∙ ap history_of_seen (filter-none is_own (λ (s : Step). s.pass == pass) before (filter-append_first is_own before between none))

-- THE TURNS OF AN ENGINE

module _ {Home Setting : Type 0} where
  -- no turn was made
  pub keeps_same : (t : CoreTurnFacts Home Setting) → KeepsTurns t t
  keeps_same t = record { pass_is = refl; setting_is = refl; begins = ([], sym (append-nil t.seen)) }

  -- some turns, and then others
  pub keeps_then : (a b c : CoreTurnFacts Home Setting) → KeepsTurns a b → KeepsTurns b c → KeepsTurns a c
  keeps_then a b c first last = record {
    pass_is = last.pass_is ∙ first.pass_is;
    setting_is = last.setting_is ∙ first.setting_is;
    begins = starts_then a.seen b.seen c.seen first.begins last.begins;
  }
