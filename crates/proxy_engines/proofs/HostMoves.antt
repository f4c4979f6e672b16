-- What a host's engine carries over each of its moves.
use Rattle.std.proofs.Common.{◌≡◌, ◌≢◌, ◌∙◌, ◌≤◌, ◌<◌, ◌+◌, ◌-◌, ◌^◌, ◌==◌, min, ℕ, Bool, true, false, List, [], ◌∷◌, ◌++◌, Option, Some, None, map, ap, append_assoc, append-nil, length, refl, sym, arith, eq-eqb, subst}
use Rattle.std.specs.Prelude.{drop, slice_index_or, ◌||◌}
use Rattle.std.specs.Option.{is_some}
use Rattle.std.specs.Io.KnownBytes.{Appends}
use Rattle.std.proofs.lemmas.Bool.{ne_eqb}
use Rattle.std.proofs.lemmas.List.{map-append, drop-drop}
use Rattle.std.proofs.lemmas.List.Elements.{filter-append, All-append, All-cons, All-nil}
use Rattle.resp_core.specs.Tree.{Tree}
use Rattle.resp_core.specs.Value.{tree_of}
use Rattle.resp_core.specs.ReaderState.{ReaderState}
use Rattle.resp_core.specs.declared.value.Value.{Value}
use Rattle.resp_core.specs.declared.error.RespError.{RespError}
use Rattle.limits.specs.declared.messages.TheConstants.{MAX_HOST_MEMBERS}
use Rattle.ticket_gate.specs.Journal.{StartsWith}
use Rattle.splitter.specs.Request.{Request, read, broken}
use Rattle.proxy_history.specs.Setting.{max_steps}
use Rattle.proxy_history.specs.History.{History, Step, times, is_fault, epoch}
use Rattle.proxy_history.specs.Replies.{replies_from}
use Rattle.proxy_history.specs.Output.{upstream, sent_text}
use Rattle.proxy_history.specs.OwnSteps.{is_of_host, host_steps}
use Rattle.proxy_history.specs.declared.event.Event.{Event}
use Rattle.proxy_history.specs.declared.event.Kind.{Kind}
use Rattle.proxy_history.specs.declared.answer.Answer.{Answer}
use Rattle.proxy_history.proofs.CallerLemmas as history
use Rattle.proxy_engines.specs.Ends.{InboxState, Holds, HasGivenAll, KeepsReader, Reads, refusal_requests}
use Rattle.journal_core.specs.Journal.{step_by}
use Rattle.proxy_engines.specs.Host.{GetsReplies, HostMove, HostOutboxState, LinkState, IsOnLink, CarriesHost, GoesOn, FailsHost, IsReplyAt, ReadsOn, WritesLink, WritesOn, moments_by, moments_after, waiting_requests, next_link}
use Rattle.proxy_engines.specs.Moves.{has_moved, AsTold, IsEndOf, text_sent}
use Rattle.proxy_engines.specs.Faults.{either, told_by_outcome}
use Rattle.proxy_engines.specs.declared.link.Outcome.{Outcome}
use Rattle.proxy_engines.proofs.MoveLemmas.{empty_end, end_then, has_moved-append, or-false, or-true, whole_end}
use Rattle.proxy_engines.proofs.ClientMoves.{Appends-none, Appends-append, log-append, reads-append, reads-none, read_holds}

-- moves from one outbox and link to the next
abbrev pub moves : HostOutboxState → HostOutboxState → Option LinkState → Option LinkState → History → History → ℕ → HostMove
moves l l' k k' H H' m = record { old = record { outbox = l; link = k }; new = record { outbox = l'; link = k' }; before = H; after = H'; moment = m }

abbrev pub GoesBy : HostOutboxState → HostOutboxState → Option LinkState → Option LinkState → History → History → ℕ → Bool → Type 0
GoesBy l l' k k' H H' m = GoesOn (moves l l' k k' H H' m)

-- BYTES

reads_none : (k : Option LinkState) → ReadsOn k k []
reads_none None = refl
reads_none (Some k) = reads-none k.inbox k.inbox (refl, refl, refl)

link_writes_none : (j k : LinkState) → (k.held ≡ j.held) × (k.taken ≡ j.taken) → WritesLink j k []
link_writes_none j k (held, taken) = record { held = rw held (Appends-none j.held); taken = taken ∙ sym (append-nil j.taken) }

writes_none : (k : Option LinkState) → WritesOn k k []
writes_none None = refl
writes_none (Some k) = link_writes_none k k (refl, refl)

reads_then : (a b c : Option LinkState) (g h : List ℕ) → ReadsOn a b g → ReadsOn b c h → ReadsOn a c (g ++ h)
reads_then None None None g h x y = rw (x, y) refl
reads_then None None (Some k) g h x y = absurd y
reads_then None (Some k) c g h x y = absurd x
reads_then (Some j) None c g h x y = absurd x
reads_then (Some j) (Some k) None g h x y = absurd y
reads_then (Some i) (Some j) (Some k) g h x y = reads-append i.inbox j.inbox k.inbox g h x y

writes_then : (a b c : Option LinkState) (g h : List ℕ) → WritesOn a b g → WritesOn b c h → WritesOn a c (g ++ h)
writes_then None None None g h x y = rw (x, y) refl
writes_then None None (Some k) g h x y = absurd y
writes_then None (Some k) c g h x y = absurd x
writes_then (Some j) None c g h x y = absurd x
writes_then (Some j) (Some k) None g h x y = absurd y
writes_then (Some i) (Some j) (Some k) g h x y = record { held = Appends-append i.held j.held k.held g h x.held y.held; taken = log-append i.taken j.taken k.taken g h x.taken y.taken }

-- MOVES

-- no bytes and no step
pub rests_on : (l : HostOutboxState) (k k' : Option LinkState) (H : History) (m : ℕ) → ReadsOn k k' [] → WritesOn k k' []
    → ((came : List Tree) (taken b : List ℕ) → IsOnLink k came taken b → IsOnLink k' came taken b) → GoesBy l l k k' H H m false
rests_on l k k' H m reads writes f = record {
  got = [];
  gave = [];
  steps = [];
  adds = refl;
  moved_is = refl;
  alone = refl;
  no_faults = refl;
  host = refl;
  reply_ms = refl;
  epoch = refl;
  moments = refl;
  replies_at = All-nil (λ (s : Step). IsReplyAt m s.event);
  reads = reads;
  writes = writes;
  one_text = whole_end l.pending;
  carries = λ taken b c. rw (append-nil taken, append-nil b) (record { out_is = c.out_is; link_is = f (replies_from l.host l.epoch H) taken b c.link_is; epoch_is = c.epoch_is; none_sent = c.none_sent; none_came = c.none_came });
}

-- nothing at all
pub stays_on : (l : HostOutboxState) (k : Option LinkState) (H H' : History) (m : ℕ) → H' ≡ H → GoesBy l l k k H H' m false
stays_on l k H H' m same = rw same (rests_on l k k H m (reads_none k) (writes_none k) (λ came taken b h. h))

moments-append : (m : ℕ) (later before : History) (ms : List ℕ) → moments_after m (later ++ before) ms ≡ moments_after m later (moments_after m before ms)
moments-append m [] before ms = refl
moments-append m (s ∷ later) before ms = ap (moments_by m s.event) (moments-append m later before ms)

times-append : (is : Event → Bool) (later before : History) → times is (later ++ before) ≡ times is later + times is before
times-append is [] before = omega arith
times-append is (s ∷ later) before = grind (arith, times-append is later before)

-- two moves after one another
pub goes_on : (a b c : HostOutboxState) (i j k : Option LinkState) (x y z : History) (m : ℕ) (f g : Bool) → GoesBy a b i j x y m f → GoesBy b c j k y z m g → GoesBy a c i k x z m (f || g)
goes_on a b c i j k x y z m f g p q = record {
  got = p.got ++ q.got;
  gave = p.gave ++ q.gave;
  steps = q.steps ++ p.steps;
  adds = rw (q.adds, p.adds) (sym (append_assoc q.steps p.steps x));
  moved_is = ap (λ z. z || g) p.moved_is ∙ ap (λ z. has_moved p.got p.gave p.steps || z) q.moved_is
      ∙ sym (has_moved-append p.got q.got p.gave q.gave p.steps q.steps);
  alone = filter-append (λ (s : Step). is_of_host a.host s.event) q.steps p.steps ∙ rw (p.alone) (ap (λ z. z ++ p.steps) (rw p.host at q.alone));
  no_faults = times-append (is_fault a.host) q.steps p.steps ∙ rw (p.no_faults, rw p.host at q.no_faults) refl;
  host = q.host ∙ p.host;
  reply_ms = q.reply_ms ∙ p.reply_ms;
  epoch = q.epoch ∙ p.epoch;
  moments = q.moments ∙ ap (moments_after m q.steps) p.moments ∙ sym (moments-append m q.steps p.steps a.moments);
  replies_at = All-append (λ (s : Step). IsReplyAt m s.event) q.steps p.steps q.replies_at p.replies_at;
  reads = reads_then i j k p.got q.got p.reads q.reads;
  writes = writes_then i j k p.gave q.gave p.writes q.writes;
  one_text = end_then text_sent a.pending b.pending c.pending p.steps q.steps p.one_text q.one_text;
  carries = λ taken r h. rw (← append_assoc taken p.gave q.gave, ← append_assoc r p.got q.got) (q.carries (taken ++ p.gave) (r ++ p.got) (p.carries taken r h));
}

-- one after which it isn't told whether anything moved
pub goes_some : (a b c : HostOutboxState) (i j k : Option LinkState) (x y z : History) (m : ℕ) (f g : Bool) → GoesBy a b i j x y m f → GoesBy b c j k y z m g → (moved : Bool) × GoesBy a c i k x z m moved
goes_some a b c i j k x y z m f g p q = ((f || g), goes_on a b c i j k x y z m f g p q)

-- a move that is no move
pub goes_idle : (a b c : HostOutboxState) (i j k : Option LinkState) (x y z : History) (m : ℕ) (f : Bool) → GoesBy a b i j x y m f → GoesBy b c j k y z m false → GoesBy a c i k x z m f
goes_idle a b c i j k x y z m f p q = subst (λ (w : Bool). GoesBy a c i k x z m w) (or-false f) (goes_on a b c i j k x y z m f false p q)

-- nothing moved, and then what is told
pub told_then : (a b c : HostOutboxState) (i j k : Option LinkState) (x y z : History) (m : ℕ) (told : Option Bool) → GoesBy a b i j x y m false → AsTold (GoesBy b c j k y z m) told → AsTold (GoesBy a c i k x z m) told
told_then a b c i j k x y z m None p q = goes_some a b c i j k x y z m false q.0 p q.1
told_then a b c i j k x y z m (Some g) p q = goes_on a b c i j k x y z m false g p q

pub some_told : (Goes : Bool → Type 0) (told : Option Bool) → AsTold Goes told → (moved : Bool) × Goes moved
some_told Goes None g = g
some_told Goes (Some moved) g = (moved, g)

-- what is told, and then nothing that moved
pub told_idle : (a b c : HostOutboxState) (i j k : Option LinkState) (x y z : History) (m : ℕ) (told : Option Bool) → AsTold (GoesBy a b i j x y m) told → GoesBy b c j k y z m false → AsTold (GoesBy a c i k x z m) told
told_idle a b c i j k x y z m None p q = (p.0, goes_idle a b c i j k x y z m p.0 p.1 q)
told_idle a b c i j k x y z m (Some g) p q = goes_idle a b c i j k x y z m g p q

-- what is told, and then something that moved
pub told_moved : (a b c : HostOutboxState) (i j k : Option LinkState) (x y z : History) (m : ℕ) (told : Option Bool) → AsTold (GoesBy a b i j x y m) told → GoesBy b c j k y z m true → GoesBy a c i k x z m true
told_moved a b c i j k x y z m told p q =
    let before = some_told (GoesBy a b i j x y m) told p in
    subst (λ (w : Bool). GoesBy a c i k x z m w) (or-true before.0) (goes_on a b c i j k x y z m before.0 true before.1 q)

-- what is told, and what is told after it
pub told_both : (a b c : HostOutboxState) (i j k : Option LinkState) (x y z : History) (m : ℕ) (told other : Option Bool) → AsTold (GoesBy a b i j x y m) told → AsTold (GoesBy b c j k y z m) other → (moved : Bool) × GoesBy a c i k x z m moved
told_both a b c i j k x y z m told other p q =
    let before = some_told (GoesBy a b i j x y m) told p in
    let after = some_told (GoesBy b c j k y z m) other q in
    goes_some a b c i j k x y z m before.0 after.0 before.1 after.1

-- two moves, told by the first of them at which anything came
pub told_either : (a b c : HostOutboxState) (i j k : Option LinkState) (x y z : History) (m : ℕ) (p q : Outcome) → AsTold (GoesBy a b i j x y m) (told_by_outcome p) → AsTold (GoesBy b c j k y z m) (told_by_outcome q) → AsTold (GoesBy a c i k x z m) (told_by_outcome (either p q))
told_either a b c i j k x y z m Outcome.Idle q f g = told_then a b c i j k x y z m (told_by_outcome q) f g
told_either a b c i j k x y z m Outcome.Moved q f g =
    let after = some_told (GoesBy b c j k y z m) (told_by_outcome q) g in
    goes_on a b c i j k x y z m true after.0 f after.1
told_either a b c i j k x y z m (Outcome.Fault kind error) q f g = told_both a b c i j k x y z m None (told_by_outcome q) f g

-- A PART IS TAKEN

module _ (l : HostOutboxState) (pass : ℕ) (H : History) (e p m : ℕ) (t : List ℕ) (nothing : l.pending ≡ []) (not_astray : l.is_astray ≡ false) where
  taken_goes : (pending : List ℕ) (astray : Bool) (k : Option LinkState) → IsEndOf pending t → pending ≡ sent_text l.host l.epoch (Event.Taken l.host) (Answer.Sent e p t)
      → (astray ≡ false → (d : ℕ) → l.epoch < d → sent_text l.host d (Event.Taken l.host) (Answer.Sent e p t) ≡ [])
      → GoesBy l (record l { pending = pending; moments = l.moments ++ m ∷ []; is_astray = astray }) k k H (step_by pass (Event.Taken l.host) (Answer.Sent e p t) ∷ H) m true
  taken_goes pending astray k one is later = record {
    got = [];
    gave = [];
    steps = step_by pass (Event.Taken l.host) (Answer.Sent e p t) ∷ [];
    adds = refl;
    moved_is = refl;
    alone = rw (eq-eqb l.host l.host refl) refl;
    no_faults = refl;
    host = refl;
    reply_ms = refl;
    epoch = refl;
    moments = refl;
    replies_at = All-cons (λ (s : Step). IsReplyAt m s.event) _ [] tt (All-nil (λ (s : Step). IsReplyAt m s.event));
    reads = reads_none k;
    writes = writes_none k;
    one_text = one;
    carries = λ taken b c. rw (append-nil taken, append-nil b) (record {
      out_is = ap (λ z. taken ++ z) is ∙ ap (λ z. z ++ sent_text l.host l.epoch (Event.Taken l.host) (Answer.Sent e p t)) (sym (append-nil taken) ∙ rw nothing at c.out_is);
      link_is = rw (append-nil (replies_from l.host l.epoch H)) c.link_is;
      epoch_is = c.epoch_is;
      none_sent = λ s d below. rw (c.none_sent not_astray d below) (later s d below);
      none_came = λ d below. append-nil (replies_from l.host d H) ∙ c.none_came d below;
    });
  }

  pub taken_on : (k : Option LinkState) → e ≡ l.epoch
      → GoesBy l (record l { pending = t; moments = l.moments ++ m ∷ [] }) k k H (step_by pass (Event.Taken l.host) (Answer.Sent e p t) ∷ H) m true
  taken_on k same = taken_goes t l.is_astray k (whole_end t) (rw (eq-eqb l.host l.host refl, eq-eqb e l.epoch same) refl) (λ s d below. rw (eq-eqb l.host l.host refl, ne_eqb e d (λ q. omega (arith, q, same, below))) refl)

  pub taken_astray : (k : Option LinkState) → e ≢ l.epoch
      → GoesBy l (record l { moments = l.moments ++ m ∷ []; is_astray = true }) k k H (step_by pass (Event.Taken l.host) (Answer.Sent e p t) ∷ H) m true
  taken_astray k other = taken_goes l.pending true k (empty_end l.pending t nothing) (rw (eq-eqb l.host l.host refl, ne_eqb e l.epoch other, nothing) refl) (λ s. absurd cc)

-- A FAULT IS RECORDED

pub fault_records : (l : HostOutboxState) (k : Option LinkState) (pass : ℕ) (H : History) (kind : Kind) (m : ℕ) (a : Answer) → l.is_astray ≡ false
    → length (step_by pass (Event.Failed l.host l.epoch kind m) a ∷ H) ≤ max_steps
    → FailsHost (moves l (next_link l) k None H (step_by pass (Event.Failed l.host l.epoch kind m) a ∷ H) m) kind
fault_records l k pass H kind m a not_astray few = record {
  pass = pass;
  answer = a;
  adds = refl;
  outbox = refl;
  link = refl;
  carries = λ taken b c.
      let next : min (l.epoch + 1) (2 ^ 64 - 1) ≡ l.epoch + 1 = omega (arith, c.epoch_is, few, history.times-length (is_fault l.host) H) in
      record {
        out_is = subst (λ (z : ℕ). [] ≡ upstream l.host z (step_by pass (Event.Failed l.host l.epoch kind m) a ∷ H)) (sym next)
            (sym (append-nil (upstream l.host (l.epoch + 1) H) ∙ c.none_sent not_astray (l.epoch + 1) (omega arith)));
        link_is = (
          subst (λ (z : ℕ). replies_from l.host z (step_by pass (Event.Failed l.host l.epoch kind m) a ∷ H) ≡ []) (sym next) (append-nil (replies_from l.host (l.epoch + 1) H) ∙ c.none_came (l.epoch + 1) (omega arith)),
          refl,
          refl,
        );
        epoch_is = rw (next, eq-eqb l.host l.host refl) (ap (λ z. z + 1) c.epoch_is);
        none_sent = λ s d below. append-nil (upstream l.host d H) ∙ c.none_sent not_astray d (omega (arith, below, next));
        none_came = λ d below. append-nil (replies_from l.host d H) ∙ c.none_came d (omega (arith, below, next));
      };
}

pub first_is : (xs : List ℕ) (x : ℕ) → 0 < length xs → x ≡ slice_index_or xs 0 x → (rest : List ℕ) × (xs ≡ x ∷ rest)
first_is [] x l e = absurd (omega (arith, l))
first_is (y ∷ ys) x l e = (ys, ap (λ z. z ∷ ys) (sym e))

-- A LINK

-- what was read goes on to the reader of values
pub sought_on : (l : HostOutboxState) (k : LinkState) (i : InboxState) (next : Option Value) (H : History) (m : ℕ) → k.next ≡ None → k.inbox.values.refusal ≡ None → KeepsReader k.inbox i → i.values.most ≡ k.inbox.values.most
    → ((b : List ℕ) (rs : List Request) → Holds k.inbox b rs → Holds i b (rs ++ (waiting_requests next ++ refusal_requests i.values.refusal))) → GoesBy l l (Some k) (Some (record k { inbox = i; next = next })) H H m false
sought_on l k i next H m none whole kept most f = rests_on l (Some k) (Some (record k { inbox = i; next = next })) H m (reads-none k.inbox i kept) (link_writes_none k (record k { inbox = i; next = next }) (refl, refl)) (λ came taken b h. record {
  given = h.given ++ (waiting_requests next ++ refusal_requests i.values.refusal);
  holds = f b h.given h.holds;
  most_is = most ∙ h.most_is;
  given_are = ap (λ z. z ++ (waiting_requests next ++ refusal_requests i.values.refusal)) (h.given_are ∙ rw (none, whole) (append-nil (map read came)));
})

-- and no value came by it
pub sought_none : (l : HostOutboxState) (k : LinkState) (i : InboxState) (H : History) (m : ℕ) → k.next ≡ None → k.inbox.values.refusal ≡ None → KeepsReader k.inbox i → i.values.most ≡ k.inbox.values.most
    → ((b : List ℕ) (rs : List Request) → Holds k.inbox b rs → Holds i b (rs ++ refusal_requests i.values.refusal)) → GoesBy l l (Some k) (Some (record k { inbox = i })) H H m false
sought_none l k i H m none whole kept most f = rests_on l (Some k) (Some (record k { inbox = i })) H m (reads-none k.inbox i kept) (link_writes_none k (record k { inbox = i }) (refl, refl)) (λ came taken b h. record {
  given = h.given ++ refusal_requests i.values.refusal;
  holds = f b h.given h.holds;
  most_is = most ∙ h.most_is;
  given_are = rw none (ap (λ z. z ++ refusal_requests i.values.refusal) (h.given_are ∙ rw (none, whole) (append-nil (map read came))));
})

pub none_is : (o : Option Value) → is_some o ≡ false → o ≡ None
none_is None e = refl
none_is (Some v) e = absurd cc

pub refused_is : (o : Option RespError) → o ≢ None → refusal_requests o ≡ broken ∷ []
refused_is None e = absurd (e refl)
refused_is (Some r) e = refl

pub with_refusal : (i : InboxState) (b : List ℕ) (rs x : List Request) (r : Option RespError) → i.values.refusal ≡ r → Holds i b (rs ++ (x ++ refusal_requests r)) → Holds i b (rs ++ (x ++ refusal_requests i.values.refusal))
with_refusal i b rs x r e h = subst (λ (z : Option RespError). Holds i b (rs ++ (x ++ refusal_requests z))) (sym e) h

-- a value has its turn
pub answered_on : (l : HostOutboxState) (k : LinkState) (v : Value) (pass : ℕ) (H : History) (a : Answer) (m : ℕ) → k.next ≡ Some v
    → GoesBy l (record l { moments = drop 1 l.moments }) (Some k) (Some (record k { next = None })) H (step_by pass (Event.Answered l.host l.epoch v m) a ∷ H) m true
answered_on l k v pass H a m next = record {
  got = [];
  gave = [];
  steps = step_by pass (Event.Answered l.host l.epoch v m) a ∷ [];
  adds = refl;
  moved_is = refl;
  alone = rw mine refl;
  no_faults = refl;
  host = refl;
  reply_ms = refl;
  epoch = refl;
  moments = refl;
  replies_at = All-cons (λ (s : Step). IsReplyAt m s.event) _ [] refl (All-nil (λ (s : Step). IsReplyAt m s.event));
  reads = reads-none k.inbox k.inbox (refl, refl, refl);
  writes = link_writes_none k (record k { next = None }) (refl, refl);
  one_text = whole_end l.pending;
  carries = λ taken b c. rw (append-nil taken, append-nil b) (record {
    out_is = c.out_is ∙ sym (append-nil (upstream l.host l.epoch H));
    link_is = record {
      given = c.link_is.given;
      holds = c.link_is.holds;
      most_is = c.link_is.most_is;
      given_are = c.link_is.given_are ∙ rw next (more_came (replies_from l.host l.epoch H) (replies_from l.host l.epoch (step_by pass (Event.Answered l.host l.epoch v m) a ∷ H)) (refusal_requests k.inbox.values.refusal) one_came);
    };
    epoch_is = c.epoch_is;
    none_sent = λ s d below. append-nil (upstream l.host d H) ∙ c.none_sent s d below;
    none_came = λ d below. rw (mine, ne_eqb l.epoch d (λ q. omega (arith, q, below))) (append-nil (replies_from l.host d H) ∙ c.none_came d below);
  });
}
  where
    mine : (l.host == l.host) ≡ true
    mine = eq-eqb l.host l.host refl

    one_came : replies_from l.host l.epoch (step_by pass (Event.Answered l.host l.epoch v m) a ∷ H) ≡ replies_from l.host l.epoch H ++ tree_of v ∷ []
    one_came = rw (mine, eq-eqb l.epoch l.epoch refl) refl

    more_came : (before after : List Tree) (rest : List Request) → after ≡ before ++ tree_of v ∷ [] → map read before ++ (read (tree_of v) ∷ rest) ≡ map read after ++ rest
    more_came before after rest e = rw (e, map-append read before (tree_of v ∷ [])) (sym (append_assoc (map read before) (read (tree_of v) ∷ []) rest))

-- a write
pub wrote_on : (l : HostOutboxState) (k k' : LinkState) (gave rest : List ℕ) (H : History) (m : ℕ) (moved : Bool) → moved ≡ has_moved [] gave [] → k'.inbox ≡ k.inbox → k'.next ≡ k.next → Appends k.held k'.held gave → k'.taken ≡ k.taken ++ gave → l.pending ≡ gave ++ rest
    → GoesBy l (record l { pending = rest }) (Some k) (Some k') H H m moved
wrote_on l k k' gave rest H m moved told inbox next held taken_is split = record {
  got = [];
  gave = gave;
  steps = [];
  adds = refl;
  moved_is = told;
  alone = refl;
  no_faults = refl;
  host = refl;
  reply_ms = refl;
  epoch = refl;
  moments = refl;
  replies_at = All-nil (λ (s : Step). IsReplyAt m s.event);
  reads = rw inbox (reads-none k.inbox k.inbox (refl, refl, refl));
  writes = record { held = held; taken = taken_is };
  one_text = (gave, split);
  carries = λ taken b c. rw (append-nil b) (record {
    out_is = append_assoc taken gave rest ∙ ap (λ z. taken ++ z) (sym split) ∙ c.out_is;
    link_is = record { given = c.link_is.given; holds = rw inbox c.link_is.holds; most_is = rw inbox c.link_is.most_is; given_are = rw (inbox, next) c.link_is.given_are };
    epoch_is = c.epoch_is;
    none_sent = c.none_sent;
    none_came = c.none_came;
  });
}

-- a read, where nothing waits for the reader of values
pub heard_on : (l : HostOutboxState) (k : LinkState) (i : InboxState) (H : History) (m : ℕ) (moved : Bool) → moved ≡ has_moved i.fresh [] [] → HasGivenAll k.inbox → Reads k.inbox i i.fresh → i.values ≡ k.inbox.values → GoesBy l l (Some k) (Some (record k { inbox = i })) H H m moved
heard_on l k i H m moved told all input same = record {
  got = i.fresh;
  gave = [];
  steps = [];
  adds = refl;
  moved_is = told;
  alone = refl;
  no_faults = refl;
  host = refl;
  reply_ms = refl;
  epoch = refl;
  moments = refl;
  replies_at = All-nil (λ (s : Step). IsReplyAt m s.event);
  reads = input;
  writes = link_writes_none k (record k { inbox = i }) (refl, refl);
  one_text = whole_end l.pending;
  carries = λ taken b c. rw (append-nil taken) (record {
    out_is = c.out_is;
    link_is = record {
      given = c.link_is.given;
      holds = read_holds k.inbox i b c.link_is.given all.none_refused all.none_fresh same c.link_is.holds;
      most_is = ap (λ (z : ReaderState). z.most) same ∙ c.link_is.most_is;
      given_are = c.link_is.given_are ∙ ap (λ (z : ReaderState). map read (replies_from l.host l.epoch H) ++ (waiting_requests k.next ++ refusal_requests z.refusal)) (sym same);
    };
    epoch_is = c.epoch_is;
    none_sent = c.none_sent;
    none_came = c.none_came;
  });
}

pub attached : (l : HostOutboxState) (k : LinkState) (H : History) → Holds k.inbox [] [] → k.inbox.values.most ≡ MAX_HOST_MEMBERS → k.inbox.values.refusal ≡ None → k.next ≡ None → CarriesHost l None H [] [] → CarriesHost l (Some k) H [] []
attached l k H holds most whole none c = record {
  out_is = c.out_is;
  link_is = record { given = []; holds = holds; most_is = most; given_are = rw (none, whole, c.link_is.0) refl };
  epoch_is = c.epoch_is;
  none_sent = c.none_sent;
  none_came = c.none_came;
}

-- an outbox to which nothing has happened
pub fresh_carries : (host reply_ms : ℕ) (H : History) → host_steps host H ≡ [] → CarriesHost (record { host = host; reply_ms = reply_ms; epoch = 0; pending = []; moments = []; is_astray = false }) None H [] []
fresh_carries host reply_ms H none =
    let same = history.SameOfHost-host_steps host H in
    let nothing_sent : (e : ℕ) → upstream host e H ≡ [] = λ e. sym (same.same_upstream e) ∙ ap (upstream host e) none in
    let nothing_came : (e : ℕ) → replies_from host e H ≡ [] = λ e. sym (same.same_replies e) ∙ ap (replies_from host e) none in
    record {
      out_is = sym (nothing_sent 0);
      link_is = (nothing_came 0, refl, refl);
      epoch_is = ap (epoch host) (sym none) ∙ same.same_epoch;
      none_sent = λ s e l. nothing_sent e;
      none_came = λ e l. nothing_came e;
    }

-- a list starts with itself
pub starts_same : {X : Type 0} (a : List X) → StartsWith a a
starts_same a = ([], sym (append-nil a))

pub starts_then : {X : Type 0} (a b c : List X) → StartsWith b a → StartsWith c b → StartsWith c a
starts_then a b c p q = (p.0 ++ q.0, q.1 ∙ ap (λ z. z ++ q.0) p.1 ∙ append_assoc a p.0 q.0)

-- the value that was found is answered, and none waits
pub found_answered : (l : HostOutboxState) (k : LinkState) (v : Value) (pass : ℕ) (H : History) (a : Answer) (m : ℕ) → k.next ≡ None
    → GoesBy l (record l { moments = drop 1 l.moments }) (Some (record k { next = Some v })) (Some k) H (step_by pass (Event.Answered l.host l.epoch v m) a ∷ H) m true
found_answered l k v pass H a m none =
    subst (λ (n : Option Value). GoesBy l (record l { moments = drop 1 l.moments }) (Some (record k { next = Some v })) (Some (record k { next = n })) H (step_by pass (Event.Answered l.host l.epoch v m) a ∷ H) m true)
    (sym none) (answered_on l (record k { next = Some v }) v pass H a m refl)

-- parts got replies in two moves, or in none
pub gets_none : (l : HostOutboxState) → GetsReplies l l
gets_none l = (0, refl)

pub gets_then : (l m n : HostOutboxState) → GetsReplies l m → GetsReplies m n → GetsReplies l n
gets_then l m n (i, is) (j, is') = (i + j, rw (is', is) (ap (λ ms. record l { moments = ms }) (drop-drop j i l.moments)))
