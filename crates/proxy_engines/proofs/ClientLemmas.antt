-- What follows from what a client's engine carries.
use Rattle.std.specs.Io.KnownBytes.{IsAtEnd}
use Rattle.std.proofs.Common.{◌≡◌, ◌∙◌, ◌⊎◌, ℕ, true, false, List, [], ◌++◌, Option, Some, None, map, ap, append_assoc, append-nil, refl, sym, subst, inl, inr}
use Rattle.std.proofs.lemmas.List.{map-append}
use Rattle.resp_core.specs.Tree.{Tree}
use Rattle.resp_core.specs.Laws as resp
use Rattle.resp_core.specs.Offset.{offset_of, number_of}
use Rattle.resp_core.specs.Stream.{Splits, HasRefusal}
use Rattle.limits.specs.declared.messages.TheConstants.{MAX_CLIENT_MEMBERS}
use Rattle.resp_core.proofs.CallerLemmas as resp_core
use Rattle.resp_core.specs.declared.error.RespError.{RespError}
use Rattle.splitter.specs.Request.{Request, read}
use Rattle.splitter.specs.Requests.{AreRequests, end_of, up_to_last}
use Rattle.splitter.proofs.CallerLemmas as splits
use Rattle.proxy_history.specs.History.{History}
use Rattle.proxy_engines.specs.Ends.{InboxState, Holds, HoldsBehind}
use Rattle.proxy_engines.specs.Client.{Client, Carries, IsFinished, IsAtStage, IsDone, IsOver, LastCloses, LastFinishes, asked_requests, waiting_requests, intake_of}
use Rattle.close_behind.specs.CloseBehind.{closes_behind, up_to_closing}
use Rattle.close_behind.proofs.CallerLemmas.{none_named, up_to_closing-first}
use Rattle.proxy_engines.specs.Laws.{AcceptedAreFirst, EndedIsAnswered, EndedIsOver, EndedIsWhole, OthersLeaveClients, RefusedClose}
use Rattle.proxy_engines.specs.declared.client.Stage.{Stage}
use Rattle.proxy_engines.proofs.ClientMoves.{carries_beside}

-- WHAT IS ACCEPTED

-- What an end has given is the first of what its bytes ask, whatever comes behind them.
module _ (i : InboxState) (b more : List ℕ) (given : List Request) (h : Holds i b given) (most : i.values.most ≡ MAX_CLIENT_MEMBERS) (rs : List Request) (are : AreRequests (b ++ more) rs) where
  -- no byte is refused yet: the values given are the first of the stream
  where_none : i.values.refusal ≡ None → (others : List Request) × (rs ≡ given ++ others)
  where_none none =
      let (values, is_refused, holds, requests_are) = are in
      let split : Splits MAX_CLIENT_MEMBERS h.fed h.given h.stands.rest = rw most at h.stands.splits in
      let bytes : b ++ more ≡ h.fed ++ (i.fresh ++ more) = ap (λ z. z ++ more) h.bytes ∙ append_assoc h.fed i.fresh more in
      let whole : resp.Holds MAX_CLIENT_MEMBERS (h.fed ++ (i.fresh ++ more)) values is_refused = subst (λ (z : List ℕ). resp.Holds MAX_CLIENT_MEMBERS z values is_refused) bytes holds in
      let others = resp_core.values_stay MAX_CLIENT_MEMBERS h.fed (i.fresh ++ more) h.stands.rest h.given values is_refused split whole in
      let rest = map read others.0 ++ end_of is_refused in
      let given_are : map read h.given ≡ given = sym (append-nil (map read h.given)) ∙ sym (rw none at h.requests) in (
        rest,
        requests_are
            ∙ ap (λ (z : List Tree). map read z ++ end_of is_refused) others.1
            ∙ ap (λ z. z ++ end_of is_refused) (map-append read h.given others.0)
            ∙ append_assoc (map read h.given) (map read others.0) (end_of is_refused)
            ∙ ap (λ z. z ++ rest) given_are,
      )

  -- a byte is refused: the requests given are all there are
  where_some : (x : RespError) → i.values.refusal ≡ Some x → (others : List Request) × (rs ≡ given ++ others)
  where_some x some =
      let fresh : i.fresh ≡ [] = rw some at h.after in
      let bytes : b ≡ h.fed = h.bytes ∙ rw fresh (append-nil h.fed) in
      let told : HasRefusal MAX_CLIENT_MEMBERS b h.given (offset_of x) (number_of x) = rw bytes (rw most at (rw some at h.stands.told)) in
      let stays = resp_core.refusal_stays MAX_CLIENT_MEMBERS b more h.given (offset_of x) (number_of x) told in
      let all : AreRequests (b ++ more) given = (h.given, true, (offset_of x, number_of x, stays), rw some at h.requests) in
      ([], splits.one_asking (b ++ more) rs given are all ∙ sym (append-nil given))

  given_first : (others : List Request) × (rs ≡ given ++ others)
  given_first = by i.values.refusal refl
    where
      by : (o : Option RespError) → i.values.refusal ≡ o → (others : List Request) × (rs ≡ given ++ others)
      by None is = where_none is
      by (Some x) is = where_some x is

-- and so where it stands behind values that were given before
behind_first : (i : InboxState) (b more : List ℕ) (given : List Request) → HoldsBehind i b given → i.values.most ≡ MAX_CLIENT_MEMBERS → (rs : List Request) → AreRequests (b ++ more) rs → (others : List Request) × (rs ≡ given ++ others)
behind_first i b more given h most rs are =
    let own = splits.each_stream_asks (h.own ++ more) in
    let first = given_first i h.own more h.given h.holds most own.0 own.1 in
    let whole = splits.requests_go_on b more h.own h.first own.0 h.splits own.1 in (
      first.0,
      splits.one_asking (b ++ more) rs (map read h.first ++ own.0) are whole
          ∙ ap (λ z. map read h.first ++ z) first.1
          ∙ sym (append_assoc (map read h.first) h.given first.0)
          ∙ ap (λ z. z ++ first.0) (sym h.requests),
    )

-- what is accepted of bytes is the first of what they ask, whatever comes behind them
pub accepted_first_of : (e : Client) (H : History) (taken b more : List ℕ) → Carries e H taken b → (rs : List Request) → AreRequests (b ++ more) rs → (others : List Request) × (rs ≡ asked_requests e.conn H ++ others)
accepted_first_of e H taken b more k rs are =
    let first = behind_first e.inbox b more k.given k.holds k.most_is rs are in (
      waiting_requests e.next ++ first.0,
      first.1 ∙ ap (λ z. z ++ first.0) k.given_are ∙ append_assoc (asked_requests e.conn H) (waiting_requests e.next) first.0,
    )

pub accepted_first : (e : Client) (H : History) (taken b : List ℕ) → Carries e H taken b → (rs : List Request) → AreRequests b rs → (more : List Request) × (rs ≡ asked_requests e.conn H ++ more)
accepted_first e H taken b k rs are = accepted_first_of e H taken b [] k rs (rw (append-nil b) are)

pub accepted_are_first : AcceptedAreFirst
accepted_are_first e H taken b k rs are = accepted_first e H taken b k rs are

-- THE END

pub ended_is_whole : EndedIsWhole
ended_is_whole e H taken b k is unhalted rs are =
    let at : IsFinished (intake_of e H b k.given) × IsDone e H = subst (λ (z : Stage). IsAtStage z (IsDone e H) (intake_of e H b k.given)) is k.stage_is in
    record {
      accepted_are = by at.0;
      all_handed = sym k.handed_is ∙ sym at.1.all_handed ∙ k.accepted_is;
      taken_is = sym (append-nil taken) ∙ rw at.1.all_written at k.out_is;
    }
  where
    by : IsFinished (intake_of e H b k.given) → asked_requests e.conn H ≡ up_to_last rs
    by (inl stays) =
        let given : k.given ≡ asked_requests e.conn H = k.given_are ∙ rw (stays.1.none_waits unhalted) (append-nil (asked_requests e.conn H)) in
        let all : AreRequests b k.given = rw k.most_is at (stays.1.all unhalted) in
        let same : rs ≡ asked_requests e.conn H = splits.one_asking b rs k.given are all ∙ given in
        sym (ap up_to_last same ∙ splits.up_to_last-none (asked_requests e.conn H) stays.0)
    by (inr last) =
        let more = accepted_first e H taken b k rs are in
        sym (ap up_to_last (more.1 ∙ ap (λ z. z ++ more.0) last.are) ∙ splits.up_to_last-first last.front last.last more.0 last.goes_on last.finishes ∙ sym last.are)

pub ended_is_over : EndedIsOver
ended_is_over e H taken b k is unhalted =
    let at : IsFinished (intake_of e H b k.given) × IsDone e H = subst (λ (z : Stage). IsAtStage z (IsDone e H) (intake_of e H b k.given)) is k.stage_is in
    by at.0
  where
    at_end : IsOver e.is_halted e.inbox → IsAtEnd e.inbox.left
    at_end (inl halted) = let no : true ≡ false = sym halted ∙ unhalted in absurd cc
    at_end (inr end) = end

    by : IsFinished (intake_of e H b k.given) → IsAtEnd e.inbox.left ⊎ LastFinishes (asked_requests e.conn H)
    by (inl stays) = inl (at_end stays.1.end)
    by (inr last) = inr last

pub ended_is_answered : EndedIsAnswered
ended_is_answered e H taken b k is =
    let at : IsFinished (intake_of e H b k.given) × IsDone e H = subst (λ (z : Stage). IsAtStage z (IsDone e H) (intake_of e H b k.given)) is k.stage_is in
    (sym k.handed_is ∙ sym at.1.all_handed ∙ k.accepted_is, sym (append-nil taken) ∙ rw at.1.all_written at k.out_is)

pub refused_close : RefusedClose
refused_close e H taken b k rs are =
    let more = accepted_first e H taken b k rs are in
    record {
      closing = λ yes. (
        let last : LastCloses e.behind (asked_requests e.conn H) = rw yes at k.closes_is in
            sym (ap (up_to_closing e.behind) (more.1 ∙ ap (λ z. z ++ more.0) last.are) ∙ up_to_closing-first e.behind last.front last.last more.0 last.goes_on last.closes ∙ sym last.are),
        (k.halted_is (k.closing_is yes)).stage,
      );
      goes_on = λ no. rw no at k.closes_is;
    }

-- without names reading stops for a drain alone
pub halted_drained : (e : Client) (H : History) (taken b : List ℕ) → Carries e H taken b → e.behind ≡ record { all = false; names = [] } → e.is_halted ≡ true → e.is_drained ≡ true
halted_drained e H taken b k unnamed halted = by (k.halted_is halted).drained
  where
    by : (e.is_drained ≡ true) ⊎ (e.is_closing ≡ true) → e.is_drained ≡ true
    by (inl drained) = drained
    by (inr closing) =
        let last : LastCloses e.behind (asked_requests e.conn H) = rw closing at k.closes_is in
        let never : true ≡ false = sym last.closes ∙ ap (λ z. closes_behind z last.last) unnamed ∙ none_named last.last in
        absurd cc

-- STEPS OF OTHERS

pub others_leave_clients : OthersLeaveClients
others_leave_clients e H later taken b others k = carries_beside e H later others taken b k
