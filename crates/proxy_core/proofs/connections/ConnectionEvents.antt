-- How the connections change with an event of a connection.
use Rattle.std.proofs.Common.{◌≡◌, ℕ, zero, suc, ◌+◌, false, ◌==◌, List, [], ◌∷◌, ◌++◌, drop, Some, None, refl, sym, ap, ◌∙◌, inl, inr, arith}
use Rattle.std.specs.Prelude.{option_map}
use Rattle.std.proofs.Math.Seq.{drop-nil}
use Rattle.std.proofs.lemmas.Bool.{cases_Bool, ne_eqb, eq-eqb}
use Rattle.std.proofs.lemmas.List.FromFn.{map-range_with_len_more}
use Rattle.list_lemmas.proofs.CallerLemmas.{map-range_same, changed_at-table}
use Rattle.proxy_history.specs.Setting.{Setting}
use Rattle.proxy_history.specs.History.{History, Step, openings, handed_count, is_closed, is_handing, is_closing, finishes, request_by}
use Rattle.proxy_history.specs.Part.{Past}
use Rattle.proxy_history.specs.Past.{past, after}
use Rattle.proxy_history.specs.Legal.{IsLegal}
use Rattle.proxy_history.specs.declared.answer.Answer.{Answer}
use Rattle.proxy_history.specs.declared.event.Event.{Event}
use Rattle.proxy_history.specs.declared.event.Event.TheVariants.{Opened, Finished, Handed, Closed}
use Rattle.proxy_core.specs.Connections.{connection_of, connections_of, fresh_connection, with_connection, finished_connection, connection_without_front, connections_without}
use Rattle.proxy_core.proofs.connections.CommandRows.{IsQuiet, row, quiet_row}
use Rattle.proxy_core.proofs.connections.ConnectionCounts.{IsUnused, unused, no_requests}

-- THE OTHER CONNECTIONS

-- The event has nothing to do with the connection.
pub record IsAside (c : ℕ) (event : Event) : Type 0 where
  pub no_request : request_by c event ≡ []
  pub no_handing : is_handing c event ≡ false
  pub no_closing : is_closing c event ≡ false
  pub no_finish : finishes c event ≡ false

-- then the connection stays as it is
pub aside : (S : Setting) (x : Past) (s : Step) (c : ℕ) → IsQuiet x s.event → IsAside c s.event → connection_of (after S s x) c ≡ connection_of x c
aside S x s c q a = rw (a.no_handing, a.no_closing, a.no_finish, quiet_row S x s c q a.no_request) refl

-- THE CONNECTION OF THE EVENT

pub quiet-opened : (x : Past) → IsQuiet x Opened
quiet-opened x = record { sends_none = refl; brings_none = λ h e. refl; is_no_fault = λ h. refl }

pub quiet-finished : (x : Past) (conn : ℕ) → IsQuiet x (Finished conn)
quiet-finished x conn = record { sends_none = refl; brings_none = λ h e. refl; is_no_fault = λ h. refl }

pub quiet-handed : (x : Past) (conn : ℕ) → IsQuiet x (Handed conn)
quiet-handed x conn = record { sends_none = refl; brings_none = λ h e. refl; is_no_fault = λ h. refl }

quiet-closed : (x : Past) (conn : ℕ) → IsQuiet x (Closed conn)
quiet-closed x conn = record { sends_none = refl; brings_none = λ h e. refl; is_no_fault = λ h. refl }

aside-opened : (c : ℕ) → IsAside c Opened
aside-opened c = record { no_request = refl; no_handing = refl; no_closing = refl; no_finish = refl }

pub differs : (c conn : ℕ) → (c ≡ conn → ⊥) → (conn == c) ≡ false
differs c conn q = ne_eqb conn c (λ e. q (sym e))

-- OPENED

fresh_at : (S : Setting) (x : Past) (s : Step) (c : ℕ) → s.event ≡ Opened → IsUnused c x.steps → connection_of (after S s x) c ≡ Some fresh_connection
fresh_at S x s c e u =
    rw (e, u.closed, u.handed, u.finishing, no_requests c x.steps u.accepted) refl

-- a connection more
pub connections-opened : (S : Setting) (H : History) (pass : ℕ) (answer : Answer) → IsLegal S H
    → connections_of (past S (record { pass = pass; event = Opened; answer = answer } ∷ H)) ≡ connections_of (past S H) ++ Some fresh_connection ∷ []
connections-opened S H pass answer legal =
    let x = past S H in
    let s : Step = record { pass = pass; event = Opened; answer = answer } in
    let n = openings H in
    map-range_with_len_more (connection_of (after S s x)) 0 n n (omega arith)
    ∙ rw (
      fresh_at S x s n refl (unused S H n legal (omega arith)),
      map-range_same (connection_of (after S s x)) (connection_of x) 0 n (λ j l m. aside S x s j (quiet-opened x) (aside-opened j)),
    ) refl

-- FINISHED

finished_at : (S : Setting) (x : Past) (s : Step) (conn : ℕ) → s.event ≡ Finished conn → connection_of (after S s x) conn ≡ option_map finished_connection (connection_of x conn)
finished_at S x s conn e =
    let r = quiet_row S x s conn (rw e (quiet-finished x conn)) (rw e refl) in
    elim (cases_Bool (is_closed conn x.steps)) [
      | inl t ↦ rw (e, t) refl
      | inr f ↦ rw (r, e, f, eq-eqb conn conn refl) refl
    ]

pub connections-finished : (S : Setting) (H : History) (pass conn : ℕ) (answer : Answer)
    → connections_of (past S (record { pass = pass; event = Finished conn; answer = answer } ∷ H)) ≡ with_connection finished_connection conn (connections_of (past S H))
connections-finished S H pass conn answer =
    let x = past S H in
    let s : Step = record { pass = pass; event = Finished conn; answer = answer } in
    sym (changed_at-table (connection_of x) (connection_of (after S s x)) (option_map finished_connection) (openings H) conn (λ l. finished_at S x s conn refl)
    (λ j l q. sym (aside S x s j (quiet-finished x conn) (record { no_request = refl; no_handing = refl; no_closing = refl; no_finish = differs j conn q }))))

-- HANDED

pub drop-one_more : {X : Type 0} (n : ℕ) (xs : List X) → drop (n + 1) xs ≡ drop 1 (drop n xs)
drop-one_more zero xs = refl
drop-one_more {X} (suc n) [] = drop-nil {A = X} (suc n + 1)
drop-one_more (suc n) (x ∷ xs) = let e : suc n + 1 ≡ suc (n + 1) = omega arith in ap (λ z. drop z (x ∷ xs)) e ∙ drop-one_more n xs

handed_at : (S : Setting) (x : Past) (s : Step) (conn : ℕ) → s.event ≡ Handed conn → connection_of (after S s x) conn ≡ option_map connection_without_front (connection_of x conn)
handed_at S x s conn e =
    let r = quiet_row S x s conn (rw e (quiet-handed x conn)) (rw e refl) in
    elim (cases_Bool (is_closed conn x.steps)) [
      | inl t ↦ rw (e, t) refl
      | inr f ↦ rw (r, e, f, eq-eqb conn conn refl, drop-one_more (handed_count conn x.steps) (row x conn)) refl
    ]

pub connections-handed : (S : Setting) (H : History) (pass conn : ℕ) (answer : Answer)
    → connections_of (past S (record { pass = pass; event = Handed conn; answer = answer } ∷ H)) ≡ with_connection connection_without_front conn (connections_of (past S H))
connections-handed S H pass conn answer =
    let x = past S H in
    let s : Step = record { pass = pass; event = Handed conn; answer = answer } in
    sym (changed_at-table (connection_of x) (connection_of (after S s x)) (option_map connection_without_front) (openings H) conn (λ l. handed_at S x s conn refl)
    (λ j l q. sym (aside S x s j (quiet-handed x conn) (record { no_request = refl; no_handing = differs j conn q; no_closing = refl; no_finish = refl }))))

-- CLOSED

closed_at : (S : Setting) (x : Past) (s : Step) (conn : ℕ) → s.event ≡ Closed conn → connection_of (after S s x) conn ≡ None
closed_at S x s conn e = rw (e, eq-eqb conn conn refl) refl

pub connections-closed : (S : Setting) (H : History) (pass conn : ℕ) (answer : Answer)
    → connections_of (past S (record { pass = pass; event = Closed conn; answer = answer } ∷ H)) ≡ connections_without conn (connections_of (past S H))
connections-closed S H pass conn answer =
    let x = past S H in
    let s : Step = record { pass = pass; event = Closed conn; answer = answer } in
    sym (changed_at-table (connection_of x) (connection_of (after S s x)) (λ k. None) (openings H) conn (λ l. closed_at S x s conn refl)
    (λ j l q. sym (aside S x s j (quiet-closed x conn) (record { no_request = refl; no_handing = refl; no_closing = differs j conn q; no_finish = refl }))))
