-- What one client and some hosts do beside one another.
use Rattle.std.proofs.Common.{◌≡◌, ◌⊎◌, ℕ, Bool, [], ◌∷◌, ◌++◌, Option, Some, None, append_assoc, append-nil, inl, inr, refl, sym, ◌∙◌}
use Rattle.std.specs.Prelude.{Result}
use Rattle.std.proofs.lemmas.List.Elements.{filter-append}
use Rattle.proxy_history.specs.History.{History, Step}
use Rattle.proxy_history.specs.OwnSteps.{connection_steps, is_connection_step}
use Rattle.proxy_history.specs.declared.event.Event.{Event}
use Rattle.proxy_history.specs.declared.event.Kind.{Kind}
use Rattle.proxy_engines.specs.Client.{Client, Goes}
use Rattle.proxy_engines.specs.Host.{HostMove, HostOutboxState, LinkState, GoesOn}
use Rattle.proxy_engines.specs.HostStep.{HostCall, Records, RestsHost, StepsHost, WorksHost, behind, move_of, up_to}
use Rattle.proxy_engines.specs.Moves.{AsTold}
use Rattle.journal_core.specs.Journal.{step_by}
use Rattle.proxy_engines.specs.declared.client.Progress.{Progress}
use Rattle.engine_work.specs.declared.error.EngineError.{EngineError}
use Rattle.proxy_engines.proofs.CallerLemmas as engines
use Rattle.proxy_local.specs.Moves.{GoesBeside, IsBeside}
use Rattle.proxy_local.proofs.BytesLemmas.{Appends-append, Appends-none, Consumes-append, Consumes-none}

none-append : (c : ℕ) (xs ys : History) → connection_steps c xs ≡ [] → connection_steps c ys ≡ [] → connection_steps c (xs ++ ys) ≡ []
none-append c xs ys p q = filter-append (λ (s : Step). is_connection_step c s.event s.answer) xs ys ∙ rw (p, q) refl

-- HOSTS

pub IsBeside-none : (x : History) → IsBeside x x
IsBeside-none x = record { later = []; adds = refl; none = λ c. refl }

pub IsBeside-then : (x y z : History) → IsBeside x y → IsBeside y z → IsBeside x z
IsBeside-then x y z p q = record {
  later = q.later ++ p.later;
  adds = rw (q.adds, p.adds) (sym (append_assoc q.later p.later x));
  none = λ c. none-append c q.later p.later (q.none c) (p.none c);
}

goes_on : (move : HostMove) (moved : Bool) → GoesOn move moved → IsBeside move.before move.after
goes_on move moved g = record {
  later = g.steps;
  adds = g.adds;
  none = (engines.hosts_leave_others move.old.outbox.host g.steps g.alone).1;
}

records : (call : HostCall) (kind : Kind) → Records call kind → IsBeside call.before call.after
records call kind r = record {
  later = step_by r.fails.pass (Event.Failed call.old.outbox.host call.old.outbox.epoch kind call.moment) r.fails.answer ∷ [];
  adds = r.fails.adds;
  none = λ c. refl;
}

same_steps : (H H' : History) → H' ≡ H → IsBeside H H'
same_steps H H' e = record { later = []; adds = e; none = λ c. refl }

module _ (unasked : HostOutboxState → LinkState → Type 0) where
  works : (call : HostCall) (result : Result Progress EngineError) → WorksHost unasked call result → IsBeside call.before call.after
  works call result w =
      IsBeside-then call.before w.between call.after (goes_on (move_of (up_to call w.last w.between)) w.moved w.goes)
      (elim w.ends [ inl (_, _, same, _, _) ↦ same_steps w.between call.after same | inr (kind, _, recorded, _, _) ↦ records (behind call w.last w.between) kind recorded ])

  steps : (call : HostCall) (result : Result Progress EngineError) → StepsHost unasked call result → IsBeside call.before call.after
  steps call result s =
      IsBeside-then call.before s.between call.after
      (elim s.begins [ inl e ↦ same_steps call.before s.between e.1 | inr (kind, _, recorded, _) ↦ records (up_to call s.first s.between) kind recorded ])
      (works (behind call s.first s.between) s.answer s.works)

  -- a step of a host is beside a client
  pub IsBeside-step : (call : HostCall) (result : Result Progress EngineError) → (StepsHost unasked call result ⊎ RestsHost call result) → IsBeside call.before call.after
  IsBeside-step call result (inl s) = steps call result s
  IsBeside-step call result (inr (_, _, same, _)) = same_steps call.before call.after same

-- THE CLIENT

pub GoesBeside-none : (e : Client) (x : History) → GoesBeside e e x x
GoesBeside-none e x = record {
  got = [];
  gave = [];
  later = [];
  reads = Consumes-none e.inbox.left;
  writes = Appends-none e.outbox.held;
  conn = refl;
  drained = refl;
  behind = refl;
  adds = refl;
  alone = λ c other. refl;
  carries = λ taken b k. rw (append-nil taken, append-nil b) k;
}

pub GoesBeside-then : (a b c : Client) (x y z : History) → GoesBeside a b x y → GoesBeside b c y z → GoesBeside a c x z
GoesBeside-then a b c x y z p q = record {
  got = p.got ++ q.got;
  gave = p.gave ++ q.gave;
  later = q.later ++ p.later;
  reads = Consumes-append a.inbox.left b.inbox.left c.inbox.left p.got q.got p.reads q.reads;
  writes = Appends-append a.outbox.held b.outbox.held c.outbox.held p.gave q.gave p.writes q.writes;
  conn = q.conn ∙ p.conn;
  drained = q.drained ∙ p.drained;
  behind = q.behind ∙ p.behind;
  adds = rw (q.adds, p.adds) (sym (append_assoc q.later p.later x));
  alone = λ d other. none-append d q.later p.later (q.alone d (λ same. other (same ∙ p.conn))) (p.alone d other);
  carries = λ taken r k. rw (← append_assoc taken p.gave q.gave, ← append_assoc r p.got q.got) (q.carries (taken ++ p.gave) (r ++ p.got) (p.carries taken r k));
}

pub GoesBeside-goes : (old new : Client) (H H' : History) (moved : Bool) → Goes old new H H' moved → GoesBeside old new H H'
GoesBeside-goes old new H H' moved g = record {
  got = g.got;
  gave = g.gave;
  later = g.steps;
  reads = g.reads.left;
  writes = g.writes.held;
  conn = g.conn;
  drained = g.drained;
  behind = g.behind;
  adds = g.adds;
  alone = (engines.clients_leave_others old.conn g.steps g.alone).0;
  carries = g.carries;
}

pub GoesBeside-told : (old new : Client) (H H' : History) (told : Option Bool) → AsTold (Goes old new H H') told → GoesBeside old new H H'
GoesBeside-told old new H H' None g = GoesBeside-goes old new H H' g.0 g.1
GoesBeside-told old new H H' (Some moved) g = GoesBeside-goes old new H H' moved g

-- steps of hosts change nothing of what a client carries
pub GoesBeside-beside : (e : Client) (H H' : History) → IsBeside H H' → GoesBeside e e H H'
GoesBeside-beside e H H' s = record {
  got = [];
  gave = [];
  later = s.later;
  reads = Consumes-none e.inbox.left;
  writes = Appends-none e.outbox.held;
  conn = refl;
  drained = refl;
  behind = refl;
  adds = s.adds;
  alone = λ c other. s.none c;
  carries = λ taken b k. rw (append-nil taken, append-nil b, s.adds) (engines.others_leave_clients e H s.later taken b (s.none e.conn) k);
}
