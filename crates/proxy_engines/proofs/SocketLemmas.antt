-- A socket over its connections.
use Rattle.std.proofs.Common.{◌≡◌, ◌∙◌, ℕ, true, false, List, [], ◌∷◌, ◌++◌, Option, map, drop, ap, append_assoc, append-nil, refl, sym, subst, inl, inr}
use Rattle.std.specs.List.{list_any}
use Rattle.std.proofs.lemmas.Bool.{cases_Bool}
use Rattle.std.proofs.lemmas.List.{map-append}
use Rattle.resp_core.specs.Tree.{Tree}
use Rattle.resp_core.specs.Stream.{Splits}
use Rattle.limits.specs.declared.messages.TheConstants.{MAX_CLIENT_MEMBERS}
use Rattle.resp_core.proofs.CallerLemmas as resp_core
use Rattle.splitter.specs.Request.{Request, read}
use Rattle.splitter.specs.Requests.{AreRequests, finishes, up_to_last}
use Rattle.splitter.proofs.CallerLemmas as splits
use Rattle.close_behind.specs.CloseBehind.{Behind, NoneCloses, up_to_closing}
use Rattle.close_behind.proofs.CallerLemmas.{none_closes-append, up_to_closing-first}
use Rattle.proxy_history.specs.History.{History}
use Rattle.proxy_history.specs.Output.{transcript}
use Rattle.proxy_devices.specs.Device.{Counts}
use Rattle.proxy_engines.specs.Ends.{RestState, Holds, IsCut, end_with}
use Rattle.proxy_engines.specs.Client.{Client, Carries, IsFinished, IsAtStage, IsDone, LastCloses, MayGoOn, NoneFinishes, asked_requests, waiting_requests, intake_of}
use Rattle.proxy_engines.specs.Socket.{IsLeft, Past, WentOn, CarriesOn, asked_before, said_before, SocketBegins, SocketMoves, SocketStays, SocketGoesOver, SocketAsksInOrder, SocketAnswersInOrder, SocketCloses, SocketClosesAnswered, SocketEndsWhole}
use Rattle.proxy_engines.specs.declared.client.Stage.{Stage}
use Rattle.proxy_engines.proofs.ClientMoves.{carries_beside}
use Rattle.proxy_engines.proofs.ClientLemmas.{accepted_first, ended_is_answered, ended_is_whole}

-- WHAT AN ENGINE LEAVES

-- the texts of values, cut between two of them
splits_apart : (most : ℕ) (b rest : List ℕ) (ts us : List Tree) → Splits most b (ts ++ us) rest → (mid : List ℕ) × Splits most b ts mid × Splits most mid us rest
splits_apart most b rest [] us g = (b, refl, g)
splits_apart most b rest (t ∷ ts) us (x, y, is, text, few, others) =
    let (mid, front, back) = splits_apart most y rest ts us others in
    (mid, (x, y, is, text, few, front), back)

-- values that ask some requests and then others
record AskApart (ts : List Tree) (asks others : List Request) : Type 0 where
  front : List Tree
  back : List Tree
  are : ts ≡ front ++ back
  front_asks : map read front ≡ asks
  back_asks : map read back ≡ others

ask_apart : (ts : List Tree) (asks others : List Request) → map read ts ≡ asks ++ others → AskApart ts asks others
ask_apart ts [] others is = record { front = []; back = ts; are = refl; front_asks = refl; back_asks = is }
ask_apart [] (r ∷ asks) others is = absurd cc
ask_apart (t ∷ ts) (r ∷ asks) others is =
    let same : read t ∷ map read ts ≡ r ∷ (asks ++ others) = is in
    let x = ask_apart ts asks others (ap (drop 1) same) in
    let first : read t ≡ r = cc in
    record { front = t ∷ x.front; back = x.back; are = ap (λ z. t ∷ z) x.are; front_asks = ap (λ z. z ∷ map read x.front) first ∙ ap (λ z. r ∷ z) x.front_asks; back_asks = x.back_asks }

module _ (e : Client) (H : History) (taken b : List ℕ) (k : Carries e H taken b) (may : MayGoOn e) (r : RestState) (most : r.values.most ≡ e.inbox.values.most) (next : r.next ≡ e.next) (behind : r.behind ≡ e.behind) where
  -- the texts of all values that were given, and what is left of the bytes behind them
  record Given : Type 0 where
    values : List Tree
    rest : List ℕ
    splits : Splits MAX_CLIENT_MEMBERS b values rest
    ask : map read values ≡ asked_requests e.conn H ++ waiting_requests e.next
    holds : (left : Option (List ℕ)) (told : List ℕ) (counts : Counts) → Holds (end_with left told counts r) rest []

  given : ((x : List ℕ) (rs : List Request) → Holds e.inbox x rs → IsCut e.inbox.values.most x rs r) → Given
  given f =
      let h = k.holds in
      let cut = f h.own h.given h.holds in
      let behind : Splits MAX_CLIENT_MEMBERS (h.own ++ []) cut.asked cut.rest = rw (append-nil h.own) (rw k.most_is at cut.splits) in
      let whole : Splits MAX_CLIENT_MEMBERS (b ++ []) (h.first ++ cut.asked) cut.rest = resp_core.splits_then MAX_CLIENT_MEMBERS b h.own [] cut.rest h.first cut.asked h.splits behind in
      record {
        values = h.first ++ cut.asked;
        rest = cut.rest;
        splits = rw (append-nil b) at whole;
        ask = map-append read h.first cut.asked ∙ ap (λ z. map read h.first ++ z) (sym cut.requests) ∙ sym h.requests ∙ k.given_are;
        holds = cut.holds;
      }

  pub is_left : ((x : List ℕ) (rs : List Request) → Holds e.inbox x rs → IsCut e.inbox.values.most x rs r) → IsLeft e.conn e.behind H taken b r
  is_left f =
      let halted = k.halted_is may.1 in
      let all = given f in
      let asks = ask_apart all.values (asked_requests e.conn H) (waiting_requests e.next) all.ask in
      let (mid, front, back) = splits_apart MAX_CLIENT_MEMBERS b all.rest asks.front asks.back (rw asks.are at all.splits) in
      let at : IsFinished (intake_of e H b k.given) × IsDone e H = subst (λ (z : Stage). IsAtStage z (IsDone e H) (intake_of e H b k.given)) may.0 k.stage_is in
      record {
        asked = asks.front;
        rest = mid;
        asked_are = sym asks.front_asks;
        splits = front;
        goes_on = halted.goes_on;
        stays = rw may.2 at k.closes_is;
        behind_is = behind;
        stands = record {
          most_is = most ∙ k.most_is;
          holds = λ left told counts. record {
            first = asks.back;
            own = all.rest;
            splits = back;
            given = [];
            holds = all.holds left told counts;
            requests = ap waiting_requests next ∙ sym asks.back_asks ∙ sym (append-nil (map read asks.back));
          };
        };
        taken_is = sym (append-nil taken) ∙ rw at.1.all_written at k.out_is;
        all_handed = sym k.handed_is ∙ sym at.1.all_handed ∙ k.accepted_is;
        closed = at.1.closed;
      }

-- CONNECTIONS BEFORE

-- what went before, in one
record Before (behind : Behind) (ps : List Past) (taken b rest : List ℕ) : Type 0 where
  asked : List Tree
  splits : Splits MAX_CLIENT_MEMBERS b asked rest
  asked_are : asked_before ps ≡ map read asked
  goes_on : NoneFinishes (asked_before ps)
  stays : NoneCloses behind (asked_before ps)
  taken_is : taken ≡ said_before ps

before : (behind : Behind) (ps : List Past) (taken b rest : List ℕ) → WentOn behind ps taken b rest → Before behind ps taken b rest
before behind [] taken b rest (none_taken, none_came, none_left) = record {
  asked = [];
  splits = none_came ∙ sym none_left;
  asked_are = refl;
  goes_on = refl;
  stays = refl;
  taken_is = none_taken;
}
before behind (p ∷ ps) taken b rest w =
    let x = before behind ps w.took w.came w.left w.before in
    let l = w.is_left in
    record {
      asked = x.asked ++ l.asked;
      splits = rw (w.bytes_are, w.rest_is) (resp_core.splits_then MAX_CLIENT_MEMBERS w.came w.left w.got l.rest x.asked l.asked x.splits l.splits);
      asked_are = ap (λ z. z ++ asked_requests p.conn p.steps) x.asked_are ∙ ap (λ z. map read x.asked ++ z) l.asked_are ∙ sym (map-append read x.asked l.asked);
      goes_on = splits.none_finishes-append (asked_before ps) (asked_requests p.conn p.steps) x.goes_on l.goes_on;
      stays = none_closes-append behind (asked_before ps) (asked_requests p.conn p.steps) x.stays l.stays;
      taken_is = w.taken_is ∙ ap (λ z. z ++ w.gave) x.taken_is ∙ ap (λ z. said_before ps ++ z) l.taken_is;
    }

-- MOVES

pub socket_begins : SocketBegins
socket_begins e H taken b k = record {
  took = [];
  came = [];
  left = [];
  gave = taken;
  got = b;
  before = (refl, refl, refl);
  carries = k;
  taken_is = refl;
  bytes_are = refl;
}

pub socket_moves : SocketMoves
socket_moves ps old new H H' moved taken b g k = record {
  took = k.took;
  came = k.came;
  left = k.left;
  gave = k.gave ++ g.gave;
  got = k.got ++ g.got;
  before = subst (λ (z : Behind). WentOn z ps k.took k.came k.left) (sym g.behind) k.before;
  carries = subst (λ (z : List ℕ). Carries new H' (k.gave ++ g.gave) z) (append_assoc k.left k.got g.got) (g.carries k.gave (k.left ++ k.got) k.carries);
  taken_is = ap (λ z. z ++ g.gave) k.taken_is ∙ append_assoc k.took k.gave g.gave;
  bytes_are = ap (λ z. z ++ g.got) k.bytes_are ∙ append_assoc k.came k.got g.got;
}

pub socket_stays : SocketStays
socket_stays ps e H later taken b others k = record {
  took = k.took;
  came = k.came;
  left = k.left;
  gave = k.gave;
  got = k.got;
  before = k.before;
  carries = carries_beside e H later others k.gave (k.left ++ k.got) k.carries;
  taken_is = k.taken_is;
  bytes_are = k.bytes_are;
}

pub socket_goes_over : SocketGoesOver
socket_goes_over ps e next H H' r taken b leaves same opens k =
    let l = leaves k.gave (k.left ++ k.got) k.carries in
    record {
      took = taken;
      came = b;
      left = l.rest;
      gave = [];
      got = [];
      before = subst (λ (z : Behind). WentOn z (record { conn = e.conn; steps = H } ∷ ps) taken b l.rest) (sym (same ∙ l.behind_is)) (record {
        took = k.took;
        came = k.came;
        left = k.left;
        gave = k.gave;
        got = k.got;
        held = r;
        before = k.before;
        is_left = l;
        taken_is = k.taken_is;
        bytes_are = k.bytes_are;
        rest_is = refl;
      });
      carries = rw (append-nil l.rest) (opens l.rest l.stands);
      taken_is = sym (append-nil taken);
      bytes_are = sym (append-nil b);
    }

-- WHAT FOLLOWS

-- requests of which none finishes, and then others
up_to_last-behind : (xs ys : List Request) → NoneFinishes xs → up_to_last (xs ++ ys) ≡ xs ++ up_to_last ys
up_to_last-behind [] ys h = refl
up_to_last-behind (x ∷ xs) ys h =
    elim (cases_Bool (finishes x)) [
      | inl f ↦ let g : true ≡ false = rw f at h in cc
      | inr f ↦ let g : list_any finishes xs ≡ false = rw f at h in rw f (ap (λ z. x ∷ z) (up_to_last-behind xs ys g))
    ]

module _ (ps : List Past) (e : Client) (H : History) (taken b : List ℕ) (k : CarriesOn ps e H taken b) (rs : List Request) (are : AreRequests b rs) where
  past : Before e.behind ps k.took k.came k.left
  past = before e.behind ps k.took k.came k.left k.before

  -- what the rest and the bytes behind it ask
  own : (qs : List Request) × AreRequests (k.left ++ k.got) qs
  own = splits.each_stream_asks (k.left ++ k.got)

  all_are : rs ≡ asked_before ps ++ own.0
  all_are =
      let whole : AreRequests (k.came ++ k.got) rs = rw k.bytes_are at are in
      splits.one_asking (k.came ++ k.got) rs (map read past.asked ++ own.0) whole (splits.requests_go_on k.came k.got k.left past.asked own.0 past.splits own.1)
      ∙ ap (λ z. z ++ own.0) (sym past.asked_are)

  pub asks_first : (more : List Request) × (rs ≡ (asked_before ps ++ asked_requests e.conn H) ++ more)
  asks_first =
      let first = accepted_first e H k.gave (k.left ++ k.got) k.carries own.0 own.1 in
      (first.0, all_are ∙ ap (λ z. asked_before ps ++ z) first.1 ∙ sym (append_assoc (asked_before ps) (asked_requests e.conn H) first.0))

pub socket_asks_in_order : SocketAsksInOrder
socket_asks_in_order ps e H taken b k rs are = asks_first ps e H taken b k rs are

pub socket_answers_in_order : SocketAnswersInOrder
socket_answers_in_order ps e H taken b k =
    let x = before e.behind ps k.took k.came k.left k.before in
    ap (λ z. z ++ e.outbox.pending) k.taken_is ∙ append_assoc k.took k.gave e.outbox.pending ∙ ap (λ z. k.took ++ z) k.carries.out_is ∙ ap (λ z. z ++ transcript e.conn H) x.taken_is

pub socket_ends_whole : SocketEndsWhole
socket_ends_whole ps e H taken b k is unhalted rs are =
    let x = past ps e H taken b k rs are in
    let qs = own ps e H taken b k rs are in
    let whole = ended_is_whole e H k.gave (k.left ++ k.got) k.carries is unhalted qs.0 qs.1 in
    record {
      accepted_are = ap (λ z. asked_before ps ++ z) whole.accepted_are ∙ sym (up_to_last-behind (asked_before ps) qs.0 x.goes_on) ∙ ap up_to_last (sym (all_are ps e H taken b k rs are));
      all_handed = whole.all_handed;
      taken_is = k.taken_is ∙ ap (λ z. z ++ k.gave) x.taken_is ∙ ap (λ z. said_before ps ++ z) whole.taken_is;
    }

-- WHERE A REFUSED COMMAND CLOSES

-- requests of which none closes, and then some up to the first that does
up_to_closing-behind : (behind : Behind) (xs : List Request) (l : List Request) (more : List Request) → NoneCloses behind xs → LastCloses behind l → up_to_closing behind ((xs ++ l) ++ more) ≡ xs ++ l
up_to_closing-behind behind xs l more none last =
    let whole : xs ++ l ≡ (xs ++ last.front) ++ last.last ∷ [] = ap (λ z. xs ++ z) last.are ∙ sym (append_assoc xs last.front (last.last ∷ [])) in
    ap (λ z. up_to_closing behind (z ++ more)) whole
    ∙ up_to_closing-first behind (xs ++ last.front) last.last more (none_closes-append behind xs last.front none last.goes_on) last.closes
    ∙ sym whole

pub socket_closes : SocketCloses
socket_closes ps e H taken b k rs are =
    let x = past ps e H taken b k rs are in
    let more = asks_first ps e H taken b k rs are in
    record {
      closing = λ yes. sym (ap (up_to_closing e.behind) more.1 ∙ up_to_closing-behind e.behind (asked_before ps) (asked_requests e.conn H) more.0 x.stays (rw yes at k.carries.closes_is));
      goes_on = λ no. none_closes-append e.behind (asked_before ps) (asked_requests e.conn H) x.stays (rw no at k.carries.closes_is);
    }

pub socket_closes_answered : SocketClosesAnswered
socket_closes_answered ps e H taken b k is =
    let x = before e.behind ps k.took k.came k.left k.before in
    let whole = ended_is_answered e H k.gave (k.left ++ k.got) k.carries is in
    record {
      all_handed = whole.0;
      taken_is = k.taken_is ∙ ap (λ z. z ++ k.gave) x.taken_is ∙ ap (λ z. said_before ps ++ z) whole.1;
    }
