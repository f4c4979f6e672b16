-- A writer that passes on what it gathered moves nothing of what an engine carries.
use Rattle.std.proofs.Common.{◌≡◌, ◌∙◌, ℕ, false, true, List, [], Option, Some, None, append-nil, refl, sym}
use Rattle.std.specs.Io.KnownBytes.{Appends, Keeps}
use Rattle.proxy_history.specs.History.{History}
use Rattle.proxy_engines.specs.Ends.{OutboxState}
use Rattle.proxy_engines.specs.Client.{Client, Goes, IsAtStage, IsDone, Intake, intake_of}
use Rattle.proxy_engines.specs.declared.client.Stage.{Stage}
use Rattle.proxy_engines.proofs.ClientMoves.{reads-none}
use Rattle.proxy_engines.proofs.MoveLemmas.{whole_end}

Appends-kept : (a b : Option (List ℕ)) → Keeps a b → Appends a b []
Appends-kept None b k = tt
Appends-kept (Some xs) None k = absurd k
Appends-kept (Some xs) (Some ys) k = rw (append-nil xs) k

-- a stage looks at the end alone, whether all is done
stage_with : (s : Stage) (D E : Type 0) (x : Intake) → (D → E)
    → IsAtStage s D x → IsAtStage s E x
stage_with Stage.Open D E x f at = at
stage_with Stage.AtEnd D E x f at = at
stage_with Stage.Finishing D E x f at = at
stage_with Stage.Failed D E x f at = at
stage_with (Stage.Closed true) D E x f at = at
stage_with (Stage.Closed false) D E x f at = (at.0, f at.1)

module _ (e : Client) (o : OutboxState) (H : History) (same : o.pending ≡ e.outbox.pending) where
  done_still : IsDone e H → IsDone (record e { outbox = o }) H
  done_still d = record { all_written = rw same d.all_written; all_handed = d.all_handed; closed = d.closed }

  pub flushed_goes : Keeps e.outbox.held o.held → o.taken ≡ e.outbox.taken → Goes e (record e { outbox = o }) H H false
  flushed_goes held taken_is = record {
    got = [];
    gave = [];
    steps = [];
    reads = reads-none e.inbox e.inbox (refl, refl, refl);
    writes = record { held = Appends-kept e.outbox.held o.held held; taken = taken_is ∙ sym (append-nil e.outbox.taken) };
    conn = refl;
    drained = refl;
    behind = refl;
    unread = λ _. record { none = refl; kept = (refl, refl, refl) };
    untaken = λ _ _. record { accepted = refl; next = refl };
    adds = refl;
    moved_is = refl;
    alone = refl;
    one_text = rw same (whole_end e.outbox.pending);
    carries = λ taken b k. rw (append-nil taken, append-nil b) (record {
      given = k.given;
      out_is = rw same k.out_is;
      holds = k.holds;
      most_is = k.most_is;
      given_are = k.given_are;
      accepted_is = k.accepted_is;
      handed_is = k.handed_is;
      stage_is = stage_with e.stage (IsDone e H) (IsDone (record e { outbox = o }) H) (intake_of e H b k.given) done_still k.stage_is;
      halted_is = λ h. let x = k.halted_is h in record { drained = x.drained; stage = x.stage; unbroken = x.unbroken; goes_on = x.goes_on };
      closes_is = k.closes_is;
      closing_is = k.closing_is;
      told_is = k.told_is;
    });
  }
