-- How the pipelines change as a part is taken.
use Rattle.std.proofs.Common.{◌≡◌, ℕ, ◌≤◌, Bool, true, false, not, ◌&&◌, List, [], ◌∷◌, ◌++◌, length, map, filter, drop, Some, None, refl, sym, ap, ◌∙◌, subst, inl, inr}
use Rattle.std.specs.List.{list_any}
use Rattle.std.proofs.lemmas.Bool.{cases_Bool, or_parts, false_from_ne_true, eqb-false}
use Rattle.std.proofs.lemmas.List.{append-nil, length-append, map-append, drop-append-le}
use Rattle.list_lemmas.proofs.CallerLemmas.{filter-same, filter-both, list_any-filter, changed_at-table}
use Rattle.proxy_history.specs.Setting.{Setting, hosts}
use Rattle.proxy_history.specs.History.{History, Step, epoch}
use Rattle.proxy_history.specs.Replies.{replies_from}
use Rattle.proxy_history.specs.Part.{Part, Past, is_of, is_same}
use Rattle.proxy_history.specs.Past.{past, after}
use Rattle.proxy_history.specs.Waiting.{waiting_parts, waits, first, sent_by, sent_to}
use Rattle.proxy_history.specs.Cause.{own_cause, causes}
use Rattle.proxy_history.specs.Legal.{IsLegal}
use Rattle.proxy_history.specs.Laws.{AreApart}
use Rattle.proxy_history.specs.declared.answer.Answer.{Answer}
use Rattle.proxy_history.specs.declared.event.Event.TheVariants.{Taken}
use Rattle.proxy_history.proofs.CallerLemmas.{sent_to-after, first_true-none as are_false, AreGood, AreGood-filter as filter_is_good, waits-true as waits_parts, is_of-true as is_of_parts, is_host-same as same_host, filter-others as all_stay, waits-taken as taken_waits, waiting-taken as after_taken, AreInOrder-parts as parts_are_in_order, length-came as replies_were_asked}
use Rattle.proxy_core.specs.Pipelines.{owner_of_part, pipe_part, place_of, pipeline_of, pipelines_of, with_pipeline, flying_of, taken_from}
use Rattle.proxy_core.proofs.pipelines.UnchangedPipeline.{same_pipeline, same_places, pipeline_stays}

-- THE FIRST THAT WAITS

pub first_waits : (h : ℕ) (x : Past) (p : Part) (ps : List Part) → waiting_parts h x ≡ p ∷ ps → waits h x p ≡ true
first_waits h x p ps e = let a : AreGood (waits h x) (p ∷ ps) = subst (AreGood (waits h x)) e (filter_is_good (waits h x) x.parts) in a.0

-- it is of no other host
pub of_no_other : (h j e : ℕ) (x : Past) (p : Part) → waits h x p ≡ true → (j ≡ h → ⊥) → is_of j e p ≡ false
of_no_other h j e x p w q = false_from_ne_true _ (λ t.
    q (same_host j h p.host (is_of_parts j e p t).0 (is_of_parts h (epoch h x.steps) p (waits_parts h x p w).0).0))

-- WHO WAITS FOR ANOTHER HOST

-- who fails the test isn't missed
others_stay : (f : Part → Bool) (p : Part) (qs : List Part) → list_any (is_same p) qs ≡ false → filter (λ q. f q && not (is_same q p)) qs ≡ filter f qs
others_stay f p qs e = filter-both f (λ q. not (is_same q p)) qs ∙ all_stay p (filter f qs) (list_any-filter (is_same p) f qs e)

one_less : (f g : Part → Bool) (p : Part) (ps qs : List Part) → AreApart qs → filter g qs ≡ p ∷ ps → f p ≡ false → filter (λ q. f q && not (is_same q p)) qs ≡ filter f qs
one_less f g p ps [] a e n = refl
one_less f g p ps (q ∷ qs) a e n = elim (cases_Bool (g q)) [
  | inl t ↦
      let here : q ∷ filter g qs ≡ p ∷ ps = rw t at e in
      let is : q ≡ p = cc in
      let not_it : f q ≡ false = ap f is ∙ n in
      let apart : list_any (is_same p) qs ≡ false = ap (λ (z : Part). list_any (is_same z) qs) (sym is) ∙ a.0 in
      rw not_it (others_stay f p qs apart)
  | inr m ↦
      let there : filter g qs ≡ p ∷ ps = rw m at e in
      let none : list_any (is_same q) (p ∷ ps) ≡ false = ap (list_any (is_same q)) (sym there) ∙ list_any-filter (is_same q) g qs a.0 in
      let other : is_same q p ≡ false = (or_parts (is_same q p) (list_any (is_same q) ps) none).0 in
      elim (cases_Bool (f q)) [
        | inl y ↦ rw (y, other) (ap (λ z. q ∷ z) (one_less f g p ps qs a.1 there n))
        | inr z ↦ rw z (one_less f g p ps qs a.1 there n)
      ]
]

waits_elsewhere : (S : Setting) (h j pass : ℕ) (answer : Answer) (x : Past) (p : Part) (ps : List Part) → AreApart x.parts → waiting_parts h x ≡ p ∷ ps → (j ≡ h → ⊥)
    → waiting_parts j (after S (record { pass = pass; event = Taken h; answer = answer }) x) ≡ waiting_parts j x
waits_elsewhere S h j pass answer x p ps a e q =
    let no : waits j x p ≡ false = false_from_ne_true _ (λ t.
    q (same_host j h p.host (is_of_parts j (epoch j x.steps) p (waits_parts j x p t).0).0 (is_of_parts h (epoch h x.steps) p (waits_parts h x p (first_waits h x p ps e)).0).0)) in
    rw (append-nil x.parts, e) (filter-same _ (λ q. waits j x q && not (is_same q p)) (taken_waits j x p) x.parts ∙ one_less (waits j x) (waits h x) p ps x.parts a e no)

-- THE PIPELINE OF THE HOST

taken_at : (S : Setting) (H : History) (pass host : ℕ) (answer : Answer) (p : Part) (ps : List Part) → IsLegal S H → waiting_parts host (past S H) ≡ p ∷ ps
    → pipeline_of (after S (record { pass = pass; event = Taken host; answer = answer }) (past S H)) host ≡ taken_from (pipeline_of (past S H) host)
taken_at S H pass host answer p ps legal q =
    let x = past S H in
    let s : Step = record { pass = pass; event = Taken host; answer = answer } in
    let x' = after S s x in
    let e = epoch host H in
    let n = length (replies_from host e H) in
    let sent = sent_to host e x in
    let (of_host, _, is_open) = waits_parts host x p (first_waits host x p ps q) in
    let sends : sent_by x s.event ≡ p ∷ [] = ap first q in
    let of_it : filter (is_of host e) (p ∷ []) ≡ p ∷ [] = rw of_host refl in
    let more : sent_to host e x' ≡ sent ++ p ∷ [] = sent_to-after S x s host e ∙ ap (λ z. sent ++ filter (is_of host e) z) sends ∙ ap (λ z. sent ++ z) of_it in
    let same_came : replies_from host e (s ∷ H) ≡ replies_from host e H = append-nil (replies_from host e H) in
    let asked : n ≤ length sent = replies_were_asked S H host e legal in
    let place : place_of x p ≡ Some (owner_of_part p) = rw is_open refl in
    same_pipeline (pipeline_of x' host) (taken_from (pipeline_of x host))
    (ap (map pipe_part) (after_taken S host pass answer x p ps (parts_are_in_order S H).apart q) ∙ ap (λ z. drop 1 (map pipe_part z)) (sym q))
    (ap (λ z. map (place_of x') (drop (length z) (sent_to host e x'))) same_came
    ∙ ap (λ z. map (place_of x') (drop n z)) more
    ∙ same_places S x s (λ c. refl) (drop n (sent ++ p ∷ []))
    ∙ ap (map (place_of x)) (drop-append-le n sent (p ∷ []) asked)
    ∙ map-append (place_of x) (drop n sent) (p ∷ [])
    ∙ ap (λ z. map (place_of x) (drop n sent) ++ z ∷ []) place
    ∙ ap (λ z. map (place_of x) (drop n sent) ++ flying_of (map pipe_part z)) (sym q))
    refl
    (ap length more ∙ length-append sent (p ∷ []))

by_waiting : (S : Setting) (H : History) (pass host : ℕ) (answer : Answer) (ws : List Part) → IsLegal S H → waiting_parts host (past S H) ≡ ws → (length ws ≡ 0 → ⊥)
    → pipelines_of S (past S (record { pass = pass; event = Taken host; answer = answer } ∷ H)) ≡ with_pipeline taken_from host (pipelines_of S (past S H))
by_waiting S H pass host answer [] legal q some = absurd (some refl)
by_waiting S H pass host answer (p ∷ ps) legal q some =
    let x = past S H in
    let s : Step = record { pass = pass; event = Taken host; answer = answer } in
    sym (changed_at-table (pipeline_of x) (pipeline_of (after S s x)) taken_from (hosts S) host
    (λ l. taken_at S H pass host answer p ps legal q)
    (λ j l d. sym (pipeline_stays S x s j (record {
      is_no_fault = refl;
      sends_none = λ e. ap (λ z. filter (is_of j e) (first z)) q ∙ rw (of_no_other host j e x p (first_waits host x p ps q) d) refl;
      brings_none = λ e. refl;
      closes_none = λ c. refl;
      same_waiting = waits_elsewhere S host j pass answer x p ps (parts_are_in_order S H).apart q d;
    }))))

-- the oldest part that waits flies
pub pipelines-taken : (S : Setting) (H : History) (pass host : ℕ) (answer : Answer) → IsLegal S H → own_cause S (past S H) (Taken host) ≡ None
    → pipelines_of S (past S (record { pass = pass; event = Taken host; answer = answer } ∷ H)) ≡ with_pipeline taken_from host (pipelines_of S (past S H))
pipelines-taken S H pass host answer legal n =
    let a = are_false (causes S (past S H) (Taken host)) n in
    by_waiting S H pass host answer (waiting_parts host (past S H)) legal refl (eqb-false (length (waiting_parts host (past S H))) 0 a.1.0)
