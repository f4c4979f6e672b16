-- Sums of counts with one more.
use Rattle.std.proofs.Common.{◌≡◌, ℕ, ◌+◌, ◌<◌, ◌≤◌, List, [], ◌∷◌, ◌++◌, length, take, map, get_or, replicate, sum_by, sym, ap, ◌∙◌, subst, arith, refl}
use Rattle.std.proofs.lemmas.List.{map-append, get_or-replicate, take_more, take_all}
use Rattle.std.proofs.lemmas.List.Sums.{sum_by-append}
use Rattle.proxy_stats.specs.declared.tally.Counts.{Counts}
use Rattle.proxy_stats.specs.declared.tally.HostCounts.{HostCounts}
use Rattle.proxy_stats.specs.Sums.{capped_sum, AreJoined, AreHostsJoined}
use Rattle.proxy_server.specs.declared.living.Living.{Living}
use Rattle.proxy_server.specs.CountSums.{AreSums, AreHostSums}

capped_more : (total x more y : ℕ) → x ≡ capped_sum total → y ≡ capped_sum (x + more) → y ≡ capped_sum (total + more)
capped_more total x more y is new = grind arith

-- a capped sum with one more
pub sum_more : {X : Type 0} (f : X → ℕ) (xs : List X) (one : X) (x y : ℕ) → x ≡ capped_sum (sum_by f xs) → y ≡ capped_sum (x + f one) → y ≡ capped_sum (sum_by f (xs ++ one ∷ []))
sum_more f xs one x y is new =
    let single : sum_by f (one ∷ []) ≡ f one = omega arith in
    capped_more (sum_by f xs) x (f one) y is new
    ∙ ap capped_sum (sym (sum_by-append f xs (one ∷ []) ∙ ap (λ n. sum_by f xs + n) single))

hosts_more : (xs : List HostCounts) (one x y : HostCounts) → AreHostSums xs x → AreHostsJoined x one y → AreHostSums (xs ++ one ∷ []) y
hosts_more xs one x y is new = record {
  sent = sum_more (λ a. a.sent) xs one x.sent y.sent is.sent new.sent;
  answered = sum_more (λ a. a.answered) xs one x.answered y.answered is.answered new.answered;
  faults = sum_more (λ a. a.faults) xs one x.faults y.faults is.faults new.faults;
  lost = sum_more (λ a. a.lost) xs one x.lost y.lost is.lost new.lost;
}

-- sums with one more
pub sums_more : (xs : List Counts) (one x y : Counts) → AreSums xs x → AreJoined x one y → AreSums (xs ++ one ∷ []) y
sums_more xs one x y is new = record {
  accepted = sum_more (λ a. a.accepted) xs one x.accepted y.accepted is.accepted new.accepted;
  handed = sum_more (λ a. a.handed) xs one x.handed y.handed is.handed new.handed;
  sent = sum_more (λ a. a.sent) xs one x.sent y.sent is.sent new.sent;
  answered = sum_more (λ a. a.answered) xs one x.answered y.answered is.answered new.answered;
  lost = sum_more (λ a. a.lost) xs one x.lost y.lost is.lost new.lost;
  ejections = sum_more (λ a. a.ejections) xs one x.ejections y.ejections is.ejections new.ejections;
  kept = sum_more (λ a. a.kept) xs one x.kept y.kept is.kept new.kept;
  no_host = sum_more (λ a. a.no_host) xs one x.no_host y.no_host is.no_host new.no_host;
  busy = sum_more (λ a. a.busy) xs one x.busy y.busy is.busy new.busy;
  local = λ i few. sum_more (λ a. get_or a.local i 0) xs one (get_or x.local i 0) (get_or y.local i 0) (is.local i few) (new.local i few);
  hosts = λ h d few.
      let at : Counts → HostCounts = λ a. get_or a.hosts h d in
      rw (map-append at xs (one ∷ [])) (hosts_more (map at xs) (at one) (at x) (at y) (is.hosts h d few) (new.hosts h d few));
}

abbrev nothing : HostCounts
nothing = record { sent = 0; answered = 0; faults = 0; lost = 0 }

-- no counts at all
pub no_sums : AreSums [] (record {
  accepted = 0;
  handed = 0;
  sent = 0;
  answered = 0;
  lost = 0;
  ejections = 0;
  kept = 0;
  no_host = 0;
  busy = 0;
  local = replicate 7 0;
  hosts = replicate 64 nothing;
})
no_sums = record {
  accepted = refl;
  handed = refl;
  sent = refl;
  answered = refl;
  lost = refl;
  ejections = refl;
  kept = refl;
  no_host = refl;
  busy = refl;
  local = λ place few. get_or-replicate 7 place 0 0 few;
  hosts = λ h d few. rw (get_or-replicate 64 h nothing d few) (record { sent = refl; answered = refl; faults = refl; lost = refl });
}

-- with the counts of one look more
pub sums_along : (past : Counts) (living : List Living) (i : ℕ) (d : Living) (x y : Counts) → i < length living
    → AreSums (past ∷ map (λ l. l.counts) (take i living)) x → AreJoined x (get_or living i d).counts y
    → AreSums (past ∷ map (λ l. l.counts) (take (i + 1) living)) y
sums_along past living i d x y less is new =
    rw (take_more living i d less, map-append (λ l. l.counts) (take i living) (get_or living i d ∷ []))
    (sums_more (past ∷ map (λ l. l.counts) (take i living)) (get_or living i d).counts x y is new)

pub sums_of_all : (past : Counts) (living : List Living) (i : ℕ) (x : Counts) → length living ≤ i
    → AreSums (past ∷ map (λ l. l.counts) (take i living)) x → AreSums (past ∷ map (λ l. l.counts) living) x
sums_of_all past living i x all is = subst (λ (l : List Living). AreSums (past ∷ map (λ a. a.counts) l) x) (take_all i living all) is
