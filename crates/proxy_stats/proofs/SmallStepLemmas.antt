-- Steps of legal histories tell of few parts.
use Rattle.std.proofs.Common.{◌≡◌, ℕ, ◌+◌, ◌≤◌, ◌<◌, Bool, List, [], ◌∷◌, length, filter, IsTrue, refl, sym, subst, All, arith}
use Rattle.std.proofs.lemmas.Bool.Decides.{nat_tests}
use Rattle.std.proofs.lemmas.List.{length-append}
use Rattle.std.proofs.lemmas.List.Elements.{All-cons}
use Rattle.std.proofs.lemmas.List.Sums.{count_by-le-length}
use Rattle.splitter.specs.Plan.{Plan, here, leave, parts}
use Rattle.splitter.specs.declared.request.Request.{Request}
use Rattle.proxy_history.specs.Setting.{Setting}
use Rattle.proxy_history.specs.History.{History, Step, plan_for, epoch, accepted_count}
use Rattle.proxy_history.specs.Part.{Part, Past}
use Rattle.proxy_history.specs.Past.{past}
use Rattle.proxy_history.specs.Waiting.{waits}
use Rattle.proxy_history.specs.Arrival.{parts_by, placed_by}
use Rattle.proxy_history.specs.Answer.{answer_to, is_hostless, is_busy}
use Rattle.proxy_history.specs.Payload.{payload, payload_of, length_of_request, has_room}
use Rattle.proxy_history.specs.Legal.{IsLegal, MayFollow}
use Rattle.proxy_history.specs.declared.event.Event.{Event}
use Rattle.proxy_history.specs.declared.event.Event.TheVariants.{Opened, Arrived, Finished, Taken, Answered, Failed, Swept, Handed, Closed}
use Rattle.proxy_history.specs.declared.answer.Answer.{Answer}
use Rattle.proxy_history.proofs.CallerLemmas.{length-placing}
use Rattle.proxy_core.proofs.CallerLemmas.{few_parts, sent_to-at_most}
use Rattle.proxy_stats.specs.Amounts.{lost_in, hostless_in, busy_in}

-- few parts are told
abbrev pub IsSmallAnswer : Answer → Type 0
IsSmallAnswer a = (lost_in a ≤ 4294967296) × (hostless_in a ≤ 4294967296) × (busy_in a ≤ 4294967296)

abbrev pub IsSmall : Step → Type 0
IsSmall s = IsSmallAnswer s.answer

few_kept : (p : Part → Bool) (ps : List Part) → length (filter p ps) ≤ length ps
few_kept p [] = omega arith
few_kept p (x ∷ xs) = let r = few_kept p xs in grind (arith, r)

few_placed : (S : Setting) (x : Past) (conn : ℕ) (request : Request) (plan : Plan) → plan_for request ≡ plan → length (placed_by S x conn plan) ≤ length_of_request request
few_placed S x conn request (here name value) e = omega arith
few_placed S x conn request (leave name value) e = omega arith
few_placed S x conn request (parts how list) e = omega (arith, length-placing S x conn (accepted_count conn x.steps) [] list, few_parts request how list e)

few_new : (S : Setting) (x : Past) (event : Event) (a : Answer) → length (parts_by S x event) ≤ payload_of event a
few_new S x Opened a = omega arith
few_new S x (Arrived conn request) a = omega (arith, few_placed S x conn request (plan_for request) refl)
few_new S x (Finished conn) a = omega arith
few_new S x (Taken host) a = omega arith
few_new S x (Answered host e value t) a = omega arith
few_new S x (Failed host e kind t) a = omega arith
few_new S x (Swept t) a = omega arith
few_new S x (Handed conn) a = omega arith
few_new S x (Closed conn) a = omega arith

few_parts_in : (S : Setting) (H : History) → length (past S H).parts ≤ payload H
few_parts_in S [] = omega arith
few_parts_in S (s ∷ H) =
    let x = past S H in
    omega (arith, few_parts_in S H, few_new S x s.event s.answer, length-append x.parts (parts_by S x s.event))

small_answer : (S : Setting) (H : History) (event : Event) → length H ≤ 262144 → payload H ≤ 67108864 → length (parts_by S (past S H) event) ≤ 67108864 → IsSmallAnswer (answer_to S (past S H) event)
small_answer S H Opened l p n = (omega arith, omega arith, omega arith)
small_answer S H (Arrived conn request) l p n =
    let placed = parts_by S (past S H) (Arrived conn request) in
    (omega arith, omega (arith, count_by-le-length is_hostless placed, n), omega (arith, count_by-le-length is_busy placed, n))
small_answer S H (Finished conn) l p n = (omega arith, omega arith, omega arith)
small_answer S H (Taken host) l p n = (omega arith, omega arith, omega arith)
small_answer S H (Answered host e value t) l p n = (omega arith, omega arith, omega arith)
small_answer S H (Failed host e kind t) l p n =
    let x = past S H in
    (omega (arith, few_kept (waits host x) x.parts, few_parts_in S H, sent_to-at_most S H host (epoch host H)), omega arith, omega arith)
small_answer S H (Swept t) l p n = (omega arith, omega arith, omega arith)
small_answer S H (Handed conn) l p n = (omega arith, omega arith, omega arith)
small_answer S H (Closed conn) l p n = (omega arith, omega arith, omega arith)

has_room_means : (H : History) (event : Event) (a : Answer) → IsTrue (has_room H event a) → (length H < 262144) × (payload H + payload_of event a ≤ 67108864)
has_room_means H event a t = (grind (arith, nat_tests), grind (arith, nat_tests))

small_step : (S : Setting) (H : History) (s : Step) → MayFollow S (past S H) s → IsSmall s
small_step S H s f =
    let r = has_room_means H s.event s.answer f.has_room in
    let a = small_answer S H s.event (omega (arith, r.0)) (omega (arith, r.1)) (omega (arith, few_new S (past S H) s.event s.answer, r.1)) in
    subst IsSmallAnswer (sym f.is_answered) a

pub small_history : (S : Setting) (H : History) → IsLegal S H → All IsSmall H
small_history S [] g = λ k d l. absurd (omega arith)
small_history S (s ∷ H) g = All-cons IsSmall s H (small_step S H s g.1) (small_history S H g.0)

-- and have no more steps than a journal takes
pub many_steps : (S : Setting) (H : History) → IsLegal S H → length H ≤ 262144
many_steps S [] g = omega arith
many_steps S (s ∷ H) g = let r = has_room_means H s.event s.answer g.1.has_room in omega (arith, r.0)
