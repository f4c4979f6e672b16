-- Where passes are assigned to places each host has one pass, whose steps tell all of it.
use Rattle.std.proofs.Common.{◌≡◌, ◌≢◌, ◌∙◌, ◌==◌, ◌%◌, ℕ, List, [], ◌∷◌, ap, refl, sym, inl, inr, true, Some, None, eq-eqb}
use Rattle.std.specs.Prelude.{Option}
use Rattle.std.proofs.lemmas.Bool.{cases_Bool, cases_eq}
use Rattle.ticket_gate.specs.Journal.{Meets}
use Rattle.proxy_core.specs.Recorded.{Origin, IsLegalJournal}
use Rattle.proxy_history.specs.History.{History, Step}
use Rattle.proxy_history.specs.OwnSteps.{host_steps, is_of_host, pass_steps}
use Rattle.proxy_history.specs.SeenSteps.{history_of_seen}
use Rattle.proxy_history.specs.OwnStepsLaws.{SameOfHost}
use Rattle.proxy_history.proofs.CallerLemmas as history
use Rattle.proxy_engines.specs.Turns.{own_steps}
use Rattle.proxy_connections.specs.Places.{AreAssigned, AssignedHostsHaveOnePass, HostsHaveOnePass, KeepsToPlace, OnePassTellsAll, PassesShareNoHost}

-- ONE PASS

-- a pass that made a step of a host has made one also later
some_later : (h q : ℕ) (s : Step) (B : History) → host_steps h (pass_steps q B) ≢ [] → host_steps h (pass_steps q (s ∷ B)) ≢ []
some_later h q s B some = elim (cases_Bool (s.pass == q)) [
  | inl mine ↦ rw mine (elim (cases_Bool (is_of_host h s.event)) [
    | inl is ↦ rw is (λ none. absurd cc)
    | inr not_it ↦ rw not_it some
  ])
  | inr other ↦ rw other some
]

own_some : (h : ℕ) (s : Step) (B : History) → is_of_host h s.event ≡ true → host_steps h (pass_steps s.pass (s ∷ B)) ≢ []
own_some h s B is = rw (eq-eqb s.pass s.pass refl, is) (λ none. absurd cc)

-- where no other pass made a step of a host all of its steps are this pass's
all_one : (h p : ℕ) (H : History) → ((q : ℕ) → host_steps h (pass_steps q H) ≢ [] → q ≡ p) → host_steps h H ≡ host_steps h (pass_steps p H)
all_one h p [] one = refl
all_one h p (s ∷ B) one =
    let rest : host_steps h B ≡ host_steps h (pass_steps p B) = all_one h p B (λ q some. one q (some_later h q s B some)) in
    elim (cases_Bool (is_of_host h s.event)) [
      | inl is ↦
          let mine : s.pass ≡ p = one s.pass (own_some h s B is) in
          rw (eq-eqb s.pass p mine, is) (ap (λ (l : History). s ∷ l) rest)
      | inr not_it ↦ elim (cases_Bool (s.pass == p)) [
        | inl mine ↦ rw (mine, not_it) rest
        | inr other ↦ rw (other, not_it) rest
      ]
    ]

-- PLACES

module _ (workers : ℕ) (index_of : ℕ → Option ℕ) (journal : List Step) (a : AreAssigned workers index_of journal) where
  place_is : (h p i : ℕ) → index_of p ≡ Some i → host_steps h (own_steps p journal) ≢ [] → h % workers ≡ i
  place_is h p i e some = elim (cases_eq (h % workers) i) [
    | inl same ↦ same
    | inr differs ↦ absurd (some (a.kept p i e h differs))
  ]

  one_pass : HostsHaveOnePass journal
  one_pass h p q some other = by (index_of p) (index_of q) refl refl
    where
      by : (i j : Option ℕ) → index_of p ≡ i → index_of q ≡ j → p ≡ q
      by None j e f = absurd (some (a.idle p e h))
      by (Some i) None e f = absurd (other (a.idle q f h))
      by (Some i) (Some j) e f =
          let same : i ≡ j = sym (place_is h p i e some) ∙ place_is h q j f other in
          a.apart p q i e (f ∙ ap Some (sym same))

  own_are : (p : ℕ) → pass_steps p (history_of_seen journal) ≡ own_steps p journal
  own_are p = (history.IsReadInOrder-seen journal).pass_steps_are p

  all_of : (h p : ℕ) → host_steps h (own_steps p journal) ≢ [] → host_steps h (history_of_seen journal) ≡ host_steps h (own_steps p journal)
  all_of h p some =
      all_one h p (history_of_seen journal) (λ q other. one_pass h q p (rw (own_are q) at other) some) ∙ ap (host_steps h) (own_are p)

  pub one_pass_tells_all : OnePassTellsAll journal
  one_pass_tells_all = record {
    one = one_pass;
    all = all_of;
    tells = λ h p some.
        let whole : SameOfHost h (history_of_seen journal) (host_steps h (history_of_seen journal)) = history.SameOfHost-host_steps h (history_of_seen journal) in
        let own : SameOfHost h (own_steps p journal) (host_steps h (own_steps p journal)) = history.SameOfHost-host_steps h (own_steps p journal) in
        let same = all_of h p some in
        record {
          same_epoch = sym own.same_epoch ∙ (rw same at whole.same_epoch);
          same_upstream = λ e. sym (own.same_upstream e) ∙ (rw same at whole.same_upstream e);
          same_replies = λ e. sym (own.same_replies e) ∙ (rw same at whole.same_replies e);
        };
  }

pub assigned_hosts_have_one_pass : AssignedHostsHaveOnePass
assigned_hosts_have_one_pass workers index_of journal a = one_pass_tells_all workers index_of journal a

-- TWO PASSES

pub passes_share_no_host : PassesShareNoHost
passes_share_no_host made n m workers i j first second met one two apart h some = elim (cases_eq (h % workers) j) [
  | inl is_j ↦ absurd (some (rw met.of_first (one h (λ is_i. apart (sym is_i ∙ is_j)))))
  | inr differs ↦ rw met.of_second (two h differs)
]
