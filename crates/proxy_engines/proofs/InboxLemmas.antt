-- What an inbox holds after each of its moves.
use Rattle.std.proofs.Common.{◌≡◌, ◌∙◌, ℕ, List, [], ◌∷◌, ◌++◌, Option, Some, None, map, ap, append_assoc, append-nil, sym, refl}
use Rattle.std.proofs.lemmas.List.{map-append}
use Rattle.std.specs.Prelude.{false, ⊤, IfSome, Result, Ok, Err, is_err, OnOk}
use Rattle.resp_core.specs.Tree.{Tree}
use Rattle.resp_core.specs.ReaderState.{Stands, StandsBehind}
use Rattle.resp_core.proofs.CallerLemmas.{splits_fed}
use Rattle.resp_core.specs.declared.error.RespError.{RespError}
use Rattle.limits.specs.declared.messages.TheConstants.{MAX_CLIENT_MEMBERS}
use Rattle.splitter.specs.Request.{Request as Asked, read, broken}
use Rattle.splitter.specs.declared.request.Request.{Request as Request'}
use Rattle.splitter.specs.Requests.{AreRequests as Asks}
use Rattle.splitter.proofs.CallerLemmas as splits
use Rattle.proxy_devices.specs.Device.{Counts}
use Rattle.proxy_engines.specs.Ends.{InboxState, RestState, GivesNext, Holds, HoldsBehind, HasGivenAll, AreRequests, IsCut, KeepsReader, end_with}

-- two moves after one another that leave the reader as it was
pub kept_then : (i j k : InboxState) → KeepsReader i j → KeepsReader j k → KeepsReader i k
kept_then i j k (left, told, counts) (left', told', counts') = (left' ∙ left, told' ∙ told, counts' ∙ counts)

after-none : (i : InboxState) → i.fresh ≡ [] → IfSome i.values.refusal (λ _. i.fresh ≡ [])
after-none i e = if_some i.values.refusal e
  where
    if_some : {P : Type 0} (o : Option RespError) → P → IfSome o (λ _. P)
    if_some None p = tt
    if_some (Some x) p = p

pub holds-fed : (i j : InboxState) (b : List ℕ) (rs : List Asked) → j.fresh ≡ [] → j.values.refusal ≡ i.values.refusal → ((x : List ℕ) (ts : List Tree) → Stands i.values x ts → Stands j.values (x ++ i.fresh) ts) → Holds i b rs → Holds j b rs
holds-fed i j b rs none same f h = record {
  fed = h.fed ++ i.fresh;
  given = h.given;
  bytes = rw none (h.bytes ∙ sym (append-nil (h.fed ++ i.fresh)));
  stands = f h.fed h.given h.stands;
  requests = rw same h.requests;
  after = after-none j none;
}

-- no byte and no value came, and the reader stands as before
pub holds-unmoved : (i j : InboxState) (b : List ℕ) (rs : List Asked) → j.fresh ≡ i.fresh → j.values.refusal ≡ i.values.refusal → ((x : List ℕ) (ts : List Tree) → Stands i.values x ts → Stands j.values x ts) → Holds i b rs → Holds j b rs
holds-unmoved i j b rs fresh same f h = record {
  fed = h.fed;
  given = h.given;
  bytes = rw fresh h.bytes;
  stands = f h.fed h.given h.stands;
  requests = rw same h.requests;
  after = rw (same, fresh) h.after;
}

pub holds-value : (i j : InboxState) (t : Tree) (b : List ℕ) (rs : List Asked) → i.fresh ≡ [] → j.fresh ≡ [] → i.values.refusal ≡ None → j.values.refusal ≡ None → ((x : List ℕ) (ts : List Tree) → Stands i.values x ts → Stands j.values x (ts ++ t ∷ [])) → Holds i b rs → Holds j b (rs ++ read t ∷ [])
holds-value i j t b rs e e' n n' f h = record {
  fed = h.fed;
  given = h.given ++ t ∷ [];
  bytes = rw e' (rw e at h.bytes);
  stands = f h.fed h.given h.stands;
  requests = rw (n', append-nil (map read (h.given ++ t ∷ [])), map-append read h.given (t ∷ [])) (ap (λ z. z ++ read t ∷ []) ((rw (n, append-nil (map read h.given)) at h.requests)));
  after = after-none j e';
}

pub holds-refused : (i j : InboxState) (e : RespError) (b : List ℕ) (rs : List Asked) → i.fresh ≡ [] → j.fresh ≡ [] → i.values.refusal ≡ None → j.values.refusal ≡ Some e → ((x : List ℕ) (ts : List Tree) → Stands i.values x ts → Stands j.values x ts) → Holds i b rs → Holds j b (rs ++ broken ∷ [])
holds-refused i j e b rs d d' n n' f h = record {
  fed = h.fed;
  given = h.given;
  bytes = rw d' (rw d at h.bytes);
  stands = f h.fed h.given h.stands;
  requests = rw n' (ap (λ z. z ++ broken ∷ []) ((rw (n, append-nil (map read h.given)) at h.requests)));
  after = after-none j d';
}

-- what is given after a move that gives nothing
pub gives_after : (i j k : InboxState) (next : Option Request') → ((b : List ℕ) (rs : List Asked) → Holds i b rs → Holds j b rs) → GivesNext j k next → GivesNext i k next
gives_after i j k None kept g = record { some = tt; none = λ b rs h. g.none b rs (kept b rs h); all = g.all; whole = g.whole; told = g.told }
gives_after i j k (Some r) kept g = record { some = λ b rs h. g.some b rs (kept b rs h); none = tt; all = tt; whole = g.whole; told = g.told }

-- what holds where a call was answered
pub fed_ok : (P : Type 0) (r : Result ⊤ RespError) → is_err r ≡ false → OnOk r P → P
fed_ok P (Ok u) e p = p
fed_ok P (Err x) e p = absurd cc

-- an end that is taken apart, whose stream begins behind the values given
pub cut-holds : (i : InboxState) (r : RestState) (b : List ℕ) (rs : List Asked) → i.values.refusal ≡ None → r.fresh ≡ i.fresh → r.values.refusal ≡ None
    → ((x : List ℕ) (ts : List Tree) → Stands i.values x ts → StandsBehind i.values.most x ts r.values) → Holds i b rs → IsCut i.values.most b rs r
cut-holds i r b rs none same none' f h =
    let behind = f h.fed h.given h.stands in
    record {
      asked = h.given;
      rest = behind.rest ++ r.fresh;
      requests = rw (none, append-nil (map read h.given)) at h.requests;
      splits = rw (h.bytes, same) (splits_fed i.values.most h.fed behind.rest i.fresh h.given behind.splits);
      holds = λ left told counts. record {
        fed = behind.rest;
        given = [];
        bytes = refl;
        stands = behind.stands;
        requests = rw none' refl;
        after = rw none' tt;
      };
    }

-- BEHIND VALUES GIVEN BEFORE

-- an end that was given all bytes itself
pub behind_none : (i : InboxState) (b : List ℕ) (rs : List Asked) → Holds i b rs → HoldsBehind i b rs
behind_none i b rs h = record { first = []; own = b; splits = refl; given = rs; holds = h; requests = refl }

-- a move that gives nothing, one that gives more, and one that brings bytes
pub behind_kept : (i j : InboxState) → ((b : List ℕ) (rs : List Asked) → Holds i b rs → Holds j b rs) → (b : List ℕ) (rs : List Asked) → HoldsBehind i b rs → HoldsBehind j b rs
behind_kept i j f b rs h = record {
  first = h.first;
  own = h.own;
  splits = h.splits;
  given = h.given;
  holds = f h.own h.given h.holds;
  requests = h.requests;
}

pub behind_more : (i j : InboxState) (more : List Asked) → ((b : List ℕ) (rs : List Asked) → Holds i b rs → Holds j b (rs ++ more)) → (b : List ℕ) (rs : List Asked) → HoldsBehind i b rs → HoldsBehind j b (rs ++ more)
behind_more i j more f b rs h = record {
  first = h.first;
  own = h.own;
  splits = h.splits;
  given = h.given ++ more;
  holds = f h.own h.given h.holds;
  requests = ap (λ z. z ++ more) h.requests ∙ append_assoc (map read h.first) h.given more;
}

pub behind_read : (i j : InboxState) (came : List ℕ) → ((b : List ℕ) (rs : List Asked) → Holds i b rs → Holds j (b ++ came) rs) → (b : List ℕ) (rs : List Asked) → HoldsBehind i b rs → HoldsBehind j (b ++ came) rs
behind_read i j came f b rs h = record {
  first = h.first;
  own = h.own ++ came;
  splits = splits_fed MAX_CLIENT_MEMBERS b h.own came h.first h.splits;
  given = h.given;
  holds = f h.own h.given h.holds;
  requests = h.requests;
}

-- where the end has given all of its own, all requests of the whole are given
pub behind_all : (i : InboxState) (b : List ℕ) (rs : List Asked) → i.values.most ≡ MAX_CLIENT_MEMBERS → HasGivenAll i → HoldsBehind i b rs → AreRequests i.values.most b rs
behind_all i b rs most all h =
    let own : Asks h.own h.given = rw most at (all.all h.own h.given h.holds) in
    let whole : Asks (b ++ []) (map read h.first ++ h.given) = splits.requests_go_on b [] h.own h.first h.given h.splits (rw (append-nil h.own) own) in
    let here : Asks b (map read h.first ++ h.given) = rw (append-nil b) at whole in
    rw (most, h.requests) here

-- an end with a rest
with-holds : (i : InboxState) (r : RestState) (b : List ℕ) (rs : List Asked) → i.fresh ≡ r.fresh → i.values ≡ r.values → Holds (end_with i.left i.told i.counts r) b rs → Holds i b rs
with-holds i r b rs fresh values h = record {
  fed = h.fed;
  given = h.given;
  bytes = rw fresh h.bytes;
  stands = rw values h.stands;
  requests = rw values h.requests;
  after = rw (values, fresh) h.after;
}

pub with-behind : (i : InboxState) (r : RestState) (b : List ℕ) (rs : List Asked) → i.fresh ≡ r.fresh → i.values ≡ r.values → ((left : Option (List ℕ)) (told : List ℕ) (counts : Counts) → HoldsBehind (end_with left told counts r) b rs) → HoldsBehind i b rs
with-behind i r b rs fresh values f = behind_kept (end_with i.left i.told i.counts r) i (λ x qs h. with-holds i r x qs fresh values h) b rs (f i.left i.told i.counts)
