-- What each refusal says of the history.
use Rattle.std.proofs.Common.{◌≡◌, ◌≢◌, ◌⊎◌, ◌+◌, ◌-◌, ◌≤◌, ℕ, Bool, true, false, not, ◌==◌, ◌&&◌, nat_lt, nat_le, if◌then◌else◌, List, [], ◌∷◌, length, Option, Some, refl, sym, ap, ◌∙◌, subst, inl, inr, arith}
use Rattle.std.proofs.lemmas.Bool.{not-false, ltb-false, leb-true, leb-false, eqb-true, eq-eqb}
use Rattle.resp_core.specs.Tree.{is_plain_tree}
use Rattle.resp_core.specs.Value.{tree_of}
use Rattle.proxy_history.specs.Setting.{Setting, hosts, max_connections, max_unwritten, max_steps, max_payload}
use Rattle.proxy_history.specs.History.{History, times, openings, accepted_count, handed_count, epoch, is_any_closing, is_closed, is_open}
use Rattle.proxy_history.specs.Part.{Part}
use Rattle.proxy_history.specs.Past.{past}
use Rattle.proxy_history.specs.Waiting.{waiting_parts, flying_count}
use Rattle.proxy_history.specs.Answer.{answer_to}
use Rattle.proxy_history.specs.Payload.{payload, payload_of, has_room}
use Rattle.proxy_history.specs.Cause.{first_true, causes, own_cause, commands_left}
use Rattle.proxy_history.specs.Legal.{IsCause}
use Rattle.proxy_history.specs.RefusalLaws.{IsNotOpen, IsStale, Means}
use Rattle.proxy_history.specs.declared.event.Event.{Event}
use Rattle.proxy_history.specs.declared.event.Event.TheVariants.{Opened, Arrived, Finished, Taken, Answered, Failed, Swept, Handed, Closed}
use Rattle.proxy_history.specs.declared.refusal.Refusal.{Refusal}
use Rattle.proxy_history.specs.declared.refusal.Refusal.TheVariants as refusal
use Rattle.proxy_history.proofs.causes.CauseLemmas.{not_ready_means}

-- ROWS OF CAUSES

-- the refusal is of the first condition that holds
abbrev IsFirst : List (Bool × Refusal) → Refusal → Type 0
IsFirst [] r = ⊥
IsFirst (x ∷ rest) r = ((x.0 ≡ true) × (x.1 ≡ r)) ⊎ ((x.0 ≡ false) × IsFirst rest r)

is_first_if : (b : Bool) (x r : Refusal) (rest : Option Refusal) → (if b then Some x else rest) ≡ Some r
    → ((b ≡ true) × (x ≡ r)) ⊎ ((b ≡ false) × (rest ≡ Some r))
is_first_if true x r rest e = inl (refl, cc)
is_first_if false x r rest e = inr (refl, e)

is_first : (rows : List (Bool × Refusal)) (r : Refusal) → first_true rows ≡ Some r → IsFirst rows r
is_first [] r e = absurd cc
is_first (x ∷ rest) r e = elim (is_first_if x.0 x.1 r (first_true rest) e) [
  | inl here ↦ inl here
  | inr later ↦ inr (later.0, is_first rest r later.1)
]

-- CONDITIONS

both_or : (a b : Bool) → not (a && not b) ≡ true → (a ≡ false) ⊎ (b ≡ true)
both_or true true e = inr refl
both_or true false e = absurd cc
both_or false b e = inl refl

either_false : (a b : Bool) → (a && b) ≡ false → (a ≡ false) ⊎ (b ≡ false)
either_false true b e = inr e
either_false false b e = inl refl

not_open : (c : ℕ) (H : History) → not (is_open c H) ≡ true → IsNotOpen c H
not_open c H e = elim (both_or (nat_lt c (openings H)) (is_closed c H) e) [
  | inl past_all ↦ inl (ltb-false c (openings H) past_all)
  | inr closed ↦ inr closed
]

not_plain : (b : Bool) → not b ≡ true → b ≡ false
not_plain true e = absurd cc
not_plain false e = refl

still_open : (c : ℕ) (H : History) → not (is_open c H) ≡ false → is_open c H ≡ true
still_open c H e = not-false (is_open c H) e

not_same : (a b : ℕ) → not (a == b) ≡ true → a ≢ b
not_same a b e = λ same. let t : not true ≡ true = ap not (sym (eq-eqb a b same)) ∙ e in absurd cc

is_stale : (h e : ℕ) (H : History) → not (e == epoch h H) ≡ true → IsStale h e (epoch h H) H
is_stale h e H n = record { current_is = refl; differs = not_same e (epoch h H) n }

none_wait : (parts : List Part) → (length parts == 0) ≡ true → parts ≡ []
none_wait [] e = refl
none_wait (p ∷ parts) e = absurd (omega (arith, eqb-true (length (p ∷ parts)) 0 e))

is_full : (S : Setting) (H : History) (event : Event) → has_room H event (answer_to S (past S H) event) ≡ false → Means S H event refusal.JournalFull
is_full S H event e =
    let bytes = payload H + payload_of event (answer_to S (past S H) event) in
    elim (either_false (nat_lt (length H) max_steps) (nat_le bytes max_payload) e) [
      | inl steps ↦ inl (ltb-false (length H) max_steps steps)
      | inr payload ↦ inr (leb-false bytes max_payload payload)
    ]

-- EVENTS

own_means : (S : Setting) (H : History) (event : Event) (r : Refusal) → own_cause S (past S H) event ≡ Some r → Means S H event r
own_means S H Opened r e = elim (is_first (causes S (past S H) Opened) r e) [
  | inl many ↦
      let are : times is_any_closing H + max_connections ≤ openings H =
      omega (arith, leb-true max_connections (openings H - times is_any_closing H) many.0) in
      subst (Means S H Opened) many.1 are
  | inr end ↦ absurd end.1
]
own_means S H (Arrived c request) r e = elim (is_first (causes S (past S H) (Arrived c request)) r e) [
  | inl closed ↦ subst (Means S H (Arrived c request)) closed.1 (not_open c H closed.0)
  | inr there ↦ elim there.1 [
    | inl over ↦ subst (Means S H (Arrived c request)) over.1 (record { opened = still_open c H there.0; finished = over.0 })
    | inr goes_on ↦ elim goes_on.1 [
      | inl many ↦
          let are : handed_count c H + max_unwritten ≤ accepted_count c H =
          omega (arith, leb-true max_unwritten (commands_left c (past S H)) many.0) in
          subst (Means S H (Arrived c request)) many.1 are
      | inr end ↦ absurd end.1
    ]
  ]
]
own_means S H (Finished c) r e = elim (is_first (causes S (past S H) (Finished c)) r e) [
  | inl closed ↦ subst (Means S H (Finished c)) closed.1 (not_open c H closed.0)
  | inr there ↦ elim there.1 [
    | inl over ↦ subst (Means S H (Finished c)) over.1 (record { opened = still_open c H there.0; finished = over.0 })
    | inr end ↦ absurd end.1
  ]
]
own_means S H (Taken h) r e = elim (is_first (causes S (past S H) (Taken h)) r e) [
  | inl no_host ↦ subst (Means S H (Taken h)) no_host.1 (leb-true (hosts S) h no_host.0)
  | inr rest ↦ elim rest.1 [
    | inl none ↦ subst (Means S H (Taken h)) none.1 (none_wait (waiting_parts h (past S H)) none.0)
    | inr end ↦ absurd end.1
  ]
]
own_means S H (Answered h e' value t) r e = elim (is_first (causes S (past S H) (Answered h e' value t)) r e) [
  | inl no_host ↦ subst (Means S H (Answered h e' value t)) no_host.1 (leb-true (hosts S) h no_host.0)
  | inr rest ↦ elim rest.1 [
    | inl other ↦ subst (Means S H (Answered h e' value t)) other.1 (not_plain (is_plain_tree (tree_of value)) other.0)
    | inr plain ↦ elim plain.1 [
      | inl stale ↦ subst (Means S H (Answered h e' value t)) stale.1 (is_stale h e' H stale.0)
      | inr current ↦ elim current.1 [
        | inl none ↦
            subst (Means S H (Answered h e' value t)) none.1
            (eqb-true e' (epoch h H) (not-false (e' == epoch h H) current.0), eqb-true (flying_count h (past S H)) 0 none.0)
        | inr end ↦ absurd end.1
      ]
    ]
  ]
]
own_means S H (Failed h e' kind t) r e = elim (is_first (causes S (past S H) (Failed h e' kind t)) r e) [
  | inl no_host ↦ subst (Means S H (Failed h e' kind t)) no_host.1 (leb-true (hosts S) h no_host.0)
  | inr rest ↦ elim rest.1 [
    | inl stale ↦ subst (Means S H (Failed h e' kind t)) stale.1 (is_stale h e' H stale.0)
    | inr end ↦ absurd end.1
  ]
]
own_means S H (Swept t) r e = absurd cc
own_means S H (Handed c) r e = elim (is_first (causes S (past S H) (Handed c)) r e) [
  | inl closed ↦ subst (Means S H (Handed c)) closed.1 (not_open c H closed.0)
  | inr there ↦ elim there.1 [
    | inl none ↦ subst (Means S H (Handed c)) none.1 ((not_ready_means S (past S H) c (commands_left c (past S H))).0 (e ∙ ap Some (sym none.1)))
    | inr end ↦ absurd end.1
  ]
]
own_means S H (Closed c) r e = elim (is_first (causes S (past S H) (Closed c)) r e) [
  | inl closed ↦ subst (Means S H (Closed c)) closed.1 (not_open c H closed.0)
  | inr end ↦ absurd end.1
]

pub refusals_mean : (S : Setting) (H : History) (event : Event) (r : Refusal) → IsCause S H event r → Means S H event r
refusals_mean S H event refusal.NoMemory cause = cause.1
refusals_mean S H event refusal.JournalFull cause = is_full S H event cause.1
refusals_mean S H event refusal.NoSuchConnection cause = own_means S H event refusal.NoSuchConnection cause
refusals_mean S H event refusal.Crowded cause = own_means S H event refusal.Crowded cause
refusals_mean S H event refusal.NothingWaiting cause = own_means S H event refusal.NothingWaiting cause
refusals_mean S H event (refusal.Stale current) cause = own_means S H event (refusal.Stale current) cause
refusals_mean S H event refusal.Unasked cause = own_means S H event refusal.Unasked cause
refusals_mean S H event (refusal.NotReady left) cause = own_means S H event (refusal.NotReady left) cause
refusals_mean S H event refusal.Finishing cause = own_means S H event refusal.Finishing cause
refusals_mean S H event refusal.TooManyConnections cause = own_means S H event refusal.TooManyConnections cause
refusals_mean S H event (refusal.BadSettings field) cause = own_means S H event (refusal.BadSettings field) cause
refusals_mean S H event refusal.NoSuchHost cause = own_means S H event refusal.NoSuchHost cause
refusals_mean S H event refusal.NotPlain cause = own_means S H event refusal.NotPlain cause
