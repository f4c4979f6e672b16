-- What a client has accepted once it ended, of the whole input.
use Rattle.std.proofs.Common.{◌≡◌, ◌≢◌, ℕ, Bool, true, false, List, [], ◌++◌, Option, Some, None, ap, append-nil, refl, sym, subst, inl, inr, ◌∙◌}
use Rattle.std.specs.Io.KnownBytes.{Consumes, IsAtEnd}
use Rattle.splitter.specs.Request.{Request}
use Rattle.splitter.specs.Requests.{AreRequests, up_to_last}
use Rattle.splitter.proofs.CallerLemmas as splits
use Rattle.proxy_history.specs.History.{History}
use Rattle.proxy_engines.specs.Ends.{InboxState}
use Rattle.proxy_engines.specs.Client.{Client, Carries, IsAtStage, IsDone, IsFinished, IsOver, asked_requests, intake_of}
use Rattle.proxy_engines.specs.declared.client.Stage.{Stage}
use Rattle.proxy_engines.proofs.CallerLemmas as engines

true_not_false : true ≢ false
true_not_false same = absurd cc

-- where more could be read, the input has ended
at_end_of : (h d : Bool) (i : InboxState) → (h ≡ true → d ≡ true) → d ≡ false → IsOver h i → IsAtEnd i.left
at_end_of h d i drained reads (inl halted) = absurd (true_not_false (sym (drained halted) ∙ reads))
at_end_of h d i drained reads (inr end) = end

-- where nothing was drained nothing was halted
pub unhalted_of : (h d : Bool) → (h ≡ true → d ≡ true) → d ≡ false → h ≡ false
unhalted_of true d drained reads = absurd (true_not_false (sym (drained refl) ∙ reads))
unhalted_of false d drained reads = refl

-- A client that ended with no drain, the bytes that it read, and the whole input.
module _ (e : Client) (H : History) (taken b input : List ℕ) (k : Carries e H taken b) (is : e.stage ≡ Stage.Closed false) (reads : e.is_drained ≡ false) (unnamed : e.behind ≡ record { all = false; names = [] }) where
  pub at_end : IsFinished (intake_of e H b k.given) × IsDone e H
  at_end = subst (λ (z : Stage). IsAtStage z (IsDone e H) (intake_of e H b k.given)) is k.stage_is

  with_rest : (more : List ℕ) → e.inbox.left ≡ Some more → input ≡ b ++ more → (rs : List Request) → AreRequests input rs → asked_requests e.conn H ≡ up_to_last rs
  with_rest more left split rs are = by at_end.0
    where
      by : IsFinished (intake_of e H b k.given) → asked_requests e.conn H ≡ up_to_last rs
      by (inl stays) =
          let none : more ≡ [] = rw left at (at_end_of e.is_halted e.is_drained e.inbox (engines.halted_drained e H taken b k unnamed) reads stays.1.end) in
          let same : input ≡ b = split ∙ rw none (append-nil b) in
          (engines.ended_is_whole e H taken b k is (unhalted_of e.is_halted e.is_drained (engines.halted_drained e H taken b k unnamed) reads) rs (subst (λ (z : List ℕ). AreRequests z rs) same are)).accepted_are
      by (inr last) =
          let others = engines.accepted_first_of e H taken b more k rs (subst (λ (z : List ℕ). AreRequests z rs) split are) in
          sym (ap up_to_last (others.1 ∙ ap (λ z. z ++ others.0) last.are) ∙ splits.up_to_last-first last.front last.last others.0 last.goes_on last.finishes ∙ sym last.are)

  pub asked-ended : Consumes (Some input) e.inbox.left b → (rs : List Request) → AreRequests input rs → asked_requests e.conn H ≡ up_to_last rs
  asked-ended reads = by e.inbox.left refl
    where
      by : (o : Option (List ℕ)) → e.inbox.left ≡ o → (rs : List Request) → AreRequests input rs → asked_requests e.conn H ≡ up_to_last rs
      by None left rs are = absurd (rw left at reads)
      by (Some more) left rs are = with_rest more left (rw left at reads) rs are
