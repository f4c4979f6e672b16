-- What a pass sees and the history of it say the same, in two orders.
use Rattle.std.specs.Prelude.{◌≡◌, ◌==◌, ◌↔◌, ℕ, Bool, List, [], ◌∷◌, ◌++◌, length, filter, count_by}
use Rattle.std.specs.List.{flat_map, list_any}
use Rattle.proxy_history.specs.Setting.{Setting}
use Rattle.proxy_history.specs.History.{History, Step, times, has, request_by, requests}
use Rattle.proxy_history.specs.Replies.{reply_by, replies_from}
use Rattle.proxy_history.specs.Past.{past}
use Rattle.proxy_history.specs.Legal.{IsLegal, MayFollow}
use Rattle.proxy_history.specs.Output.{handed_text, transcript, sent_text, upstream}
use Rattle.proxy_history.specs.OwnSteps.{is_connection_step, connection_steps, is_of_host, host_steps, pass_steps}
use Rattle.proxy_history.specs.SeenSteps.{history_of_seen, seen_of_history}
use Rattle.proxy_history.specs.declared.event.Event.{Event}

-- Each order gives the other. What a pass sees grows at its end where the history grows at its front.
pub record OrdersAgree (seen more : List Step) (H : History) : Type 0 where
  pub there : history_of_seen (seen_of_history H) ≡ H
  pub back : seen_of_history (history_of_seen seen) ≡ seen
  pub same_length : length (history_of_seen seen) ≡ length seen
  pub next : (s : Step) → history_of_seen (seen ++ s ∷ []) ≡ s ∷ history_of_seen seen
  pub longer : history_of_seen (seen ++ more) ≡ history_of_seen more ++ history_of_seen seen

-- both orders hold the same steps
abbrev pub OrdersHoldTheSame : Type 0
OrdersHoldTheSame = (seen more : List Step) (H : History) → OrdersAgree seen more H

-- one more step is legal exactly where what was seen before is legal, and the step may follow it
abbrev pub SeenStepsFollow : Type 0
SeenStepsFollow = (S : Setting) (seen : List Step) (s : Step)
    → IsLegal S (history_of_seen (seen ++ s ∷ []))
    ↔ (IsLegal S (history_of_seen seen)
    × MayFollow S (past S (history_of_seen seen)) s)

-- each beginning of what was seen is legal where all of it is
abbrev pub SeenBeginningsAreLegal : Type 0
SeenBeginningsAreLegal = (S : Setting) (seen more : List Step)
    → IsLegal S (history_of_seen (seen ++ more)) → IsLegal S (history_of_seen seen)

-- What the history of these steps tells, read in the order in which a pass sees them: what goes out, what is asked, what
-- comes and each count are gathered step by step, and whose steps are whose is a filter.
pub record IsReadInOrder (seen : List Step) : Type 0 where
  pub transcript_is : (c : ℕ) → transcript c (history_of_seen seen)
      ≡ flat_map (λ (s : Step). handed_text c s.event s.answer) seen
  pub requests_are : (c : ℕ) → requests c (history_of_seen seen)
      ≡ flat_map (λ (s : Step). request_by c s.event) seen
  pub upstream_is : (h e : ℕ) → upstream h e (history_of_seen seen)
      ≡ flat_map (λ (s : Step). sent_text h e s.event s.answer) seen
  pub replies_are : (h e : ℕ) → replies_from h e (history_of_seen seen)
      ≡ flat_map (λ (s : Step). reply_by h e s.event) seen
  pub times_are : (is : Event → Bool) → times is (history_of_seen seen)
      ≡ count_by (λ (s : Step). is s.event) seen
  pub has_is : (is : Event → Bool) → has is (history_of_seen seen)
      ≡ list_any (λ (s : Step). is s.event) seen
  pub connection_steps_are : (c : ℕ) → connection_steps c (history_of_seen seen)
      ≡ history_of_seen (filter (λ (s : Step). is_connection_step c s.event s.answer) seen)
  pub host_steps_are : (h : ℕ) → host_steps h (history_of_seen seen)
      ≡ history_of_seen (filter (λ (s : Step). is_of_host h s.event) seen)
  pub pass_steps_are : (pass : ℕ) → pass_steps pass (history_of_seen seen)
      ≡ history_of_seen (filter (λ (s : Step). s.pass == pass) seen)

-- a history is read in the order in which a pass sees it
abbrev pub SeenIsReadInOrder : Type 0
SeenIsReadInOrder = (seen : List Step) → IsReadInOrder seen
