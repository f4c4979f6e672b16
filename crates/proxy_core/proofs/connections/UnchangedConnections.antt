-- The connections as a part is taken or hosts are swept: they stay as they are.
use Rattle.std.proofs.Common.{◌≡◌, ℕ, ◌≤◌, nat_lt, List, [], ◌∷◌, ◌++◌, length, filter, Option, Some, None, refl, ap, ◌∙◌, arith}
use Rattle.std.specs.Prelude.{option_map}
use Rattle.std.specs.List.{find, zip, range_with_len}
use Rattle.std.proofs.lemmas.List.{append-nil}
use Rattle.list_lemmas.proofs.CallerLemmas.{map-same}
use Rattle.resp_core.specs.Tree.{Tree}
use Rattle.proxy_history.specs.Setting.{Setting}
use Rattle.proxy_history.specs.History.{History, Step, openings, epoch}
use Rattle.proxy_history.specs.Replies.{replies_from}
use Rattle.proxy_history.specs.Part.{Part, Past, is_of, is_same}
use Rattle.proxy_history.specs.Past.{past, after}
use Rattle.proxy_history.specs.Waiting.{sent_by, sent_to}
use Rattle.proxy_history.specs.Value.{reply_to, or_lost, value_at, value_or, value_of}
use Rattle.proxy_history.specs.Legal.{IsLegal}
use Rattle.proxy_history.specs.declared.answer.Answer.{Answer}
use Rattle.proxy_history.specs.declared.event.Event.TheVariants.{Taken, Swept}
use Rattle.proxy_history.proofs.CallerLemmas.{sent_to-after, length-came as replies_were_asked}
use Rattle.proxy_core.specs.Connections.{connection_of, connections_of}
use Rattle.proxy_core.proofs.connections.CommandRows.{IsQuiet, steady_row}
use Rattle.proxy_core.proofs.connections.ConnectionEvents.{aside}

-- SWEPT

pub quiet-swept : (x : Past) (t : ℕ) → IsQuiet x (Swept t)
quiet-swept x t = record { sends_none = refl; brings_none = λ h e. refl; is_no_fault = λ h. refl }

pub connections-swept : (S : Setting) (H : History) (pass t : ℕ) (answer : Answer)
    → connections_of (past S (record { pass = pass; event = Swept t; answer = answer } ∷ H)) ≡ connections_of (past S H)
connections-swept S H pass t answer =
    let x = past S H in
    let s : Step = record { pass = pass; event = Swept t; answer = answer } in
    map-same (connection_of (after S s x)) (connection_of x) (range_with_len 0 (openings H))
    (λ c. aside S x s c (quiet-swept x t) (record { no_request = refl; no_handing = refl; no_closing = refl; no_finish = refl }))

-- TAKEN

-- no reply stands beside one that is sent now
zip-more : {X Y : Type 0} (xs xs' : List X) (ys : List Y) → length ys ≤ length xs → zip (xs ++ xs') ys ≡ zip xs ys
zip-more [] [] [] l = refl
zip-more [] (x ∷ xs') [] l = refl
zip-more [] xs' (y ∷ ys) l = absurd (omega (arith, l))
zip-more (x ∷ xs) xs' [] l = refl
zip-more (x ∷ xs) xs' (y ∷ ys) l = ap (λ z. (x, y) ∷ z) (zip-more xs xs' ys (omega (arith, l)))

taken_reply : (S : Setting) (H : History) (pass host : ℕ) (answer : Answer) (h : ℕ) (p : Part) → IsLegal S H
    → reply_to p h (after S (record { pass = pass; event = Taken host; answer = answer }) (past S H)) ≡ reply_to p h (past S H)
taken_reply S H pass host answer h p legal =
    let x = past S H in
    let s : Step = record { pass = pass; event = Taken host; answer = answer } in
    let x' = after S s x in
    let e = p.epoch in
    let sent = sent_to h e x in
    let found : List (Part × Tree) → Option Tree = λ z. option_map (λ r. r.1) (find (λ r. is_same p r.0) z) in
    ap (λ z. found (zip z (replies_from h e (s ∷ H)))) (sent_to-after S x s h e)
    ∙ ap (λ z. found (zip (sent ++ filter (is_of h e) (sent_by x s.event)) z)) (append-nil (replies_from h e H))
    ∙ ap found (zip-more sent (filter (is_of h e) (sent_by x s.event)) (replies_from h e H) (replies_were_asked S H h e legal))

taken_at : (S : Setting) (H : History) (pass host : ℕ) (answer : Answer) (p : Part) (o : Option ℕ) → IsLegal S H
    → value_at (after S (record { pass = pass; event = Taken host; answer = answer }) (past S H)) p o ≡ value_at (past S H) p o
taken_at S H pass host answer p None legal = refl
taken_at S H pass host answer p (Some h) legal = ap (or_lost (nat_lt p.epoch (epoch h H))) (taken_reply S H pass host answer h p legal)

-- a part that is sent changes no value
pub taken_value : (S : Setting) (H : History) (pass host : ℕ) (answer : Answer) (p : Part) → IsLegal S H
    → value_of (after S (record { pass = pass; event = Taken host; answer = answer }) (past S H)) p ≡ value_of (past S H) p
taken_value S H pass host answer p legal = ap (value_or p.local) (taken_at S H pass host answer p p.host legal)

pub connections-taken : (S : Setting) (H : History) (pass host : ℕ) (answer : Answer) → IsLegal S H
    → connections_of (past S (record { pass = pass; event = Taken host; answer = answer } ∷ H)) ≡ connections_of (past S H)
connections-taken S H pass host answer legal =
    let x = past S H in
    let s : Step = record { pass = pass; event = Taken host; answer = answer } in
    map-same (connection_of (after S s x)) (connection_of x) (range_with_len 0 (openings H))
    (λ c. rw (steady_row S x s c (λ p. taken_value S H pass host answer p legal) refl) refl)
