-- What the events of a list of steps bring, in their order: as a flat map over the steps, and over their history.
use Rattle.std.proofs.Common.{◌≡◌, ◌+◌, ◌<◌, ◌≤◌, ℕ, Bool, true, List, [], ◌∷◌, ◌++◌, length, take, drop, get_or, Some, None, refl, sym, ap, ◌∙◌, inl, inr, append_assoc, append-nil, arith}
use Rattle.std.specs.Prelude.{slice_get, nat_lt}
use Rattle.std.specs.List.{flat_map}
use Rattle.std.proofs.lemmas.Bool.{cases_Bool, lt-ltb}
use Rattle.std.proofs.lemmas.List.{take_more, take_all, take-append-drop, reverse-append, length-append}
use Rattle.std.proofs.lemmas.Grind.{flat_map-append}
use Rattle.std.proofs.lemmas.Option.{slice_get_past}
use Rattle.resp_core.specs.Tree.{Tree}
use Rattle.splitter.specs.declared.request.Request.{Request}
use Rattle.proxy_history.specs.History.{History, Step, times, has, requests, request_by}
use Rattle.proxy_history.specs.Replies.{replies_from, reply_by}
use Rattle.test_reference.specs.Scan.{history_of}
use Rattle.proxy_history.specs.declared.event.Event.{Event}

module _ {X : Type 0} (by : Event → List X) where
  -- over the steps, the oldest first
  abbrev flat : List Step → List X
  flat steps = flat_map (λ s. by s.event) steps

  -- over a history
  abbrev collected : History → List X
  collected [] = []
  collected (s ∷ before) = collected before ++ by s.event

  collected-oldest : (H : History) (s : Step) → collected (H ++ s ∷ []) ≡ by s.event ++ collected H
  collected-oldest [] s = sym (append-nil (by s.event))
  collected-oldest (t ∷ H) s = ap (λ z. z ++ by t.event) (collected-oldest H s) ∙ append_assoc (by s.event) (collected H) (by t.event)

  collected_is_flat : (steps : List Step) → collected (history_of steps) ≡ flat steps
  collected_is_flat [] = refl
  collected_is_flat (s ∷ steps) =
      ap collected (reverse-append (s ∷ []) steps) ∙ collected-oldest (history_of steps) s ∙ ap (λ z. by s.event ++ z) (collected_is_flat steps)

  flat-more : (steps : List Step) (i : ℕ) (d : Step) → i < length steps → flat (take (i + 1) steps) ≡ flat (take i steps) ++ by (get_or steps i d).event
  flat-more steps i d l =
      ap flat (take_more steps i d l) ∙ flat_map-append (λ s. by s.event) (take i steps) (get_or steps i d ∷ [])
      ∙ ap (λ z. flat (take i steps) ++ z) (append-nil (by (get_or steps i d).event))

  flat-front : (steps : List Step) (i : ℕ) → flat steps ≡ flat (take i steps) ++ flat (drop i steps)
  flat-front steps i = ap flat (sym (take-append-drop i steps)) ∙ flat_map-append (λ s. by s.event) (take i steps) (drop i steps)

  at_length : (xs ys : List X) (x : X) → slice_get ((xs ++ x ∷ []) ++ ys) (length xs) ≡ Some x
  at_length [] ys x = refl
  at_length (y ∷ xs) ys x = at_length xs ys x

  -- what one event brings stands behind what the events before it brought
  found_at : (steps : List Step) (i : ℕ) (d : Step) (x : X) (n : ℕ) → i < length steps → by (get_or steps i d).event ≡ x ∷ [] → n ≡ length (flat (take i steps)) → slice_get (flat steps) n ≡ Some x
  found_at steps i d x n l e m =
      let before = flat (take i steps) in
      let all : flat steps ≡ (before ++ x ∷ []) ++ flat (drop (i + 1) steps) = flat-front steps (i + 1) ∙ ap (λ z. z ++ flat (drop (i + 1) steps)) (flat-more steps i d l ∙ ap (λ z. before ++ z) e) in
      ap (λ z. slice_get z n) all ∙ ap (slice_get ((before ++ x ∷ []) ++ flat (drop (i + 1) steps))) m ∙ at_length before (flat (drop (i + 1) steps)) x

  -- how many came, with one event more
  length-more_one : (steps : List Step) (i : ℕ) (d : Step) (x : X) → i < length steps → by (get_or steps i d).event ≡ x ∷ [] → length (flat (take (i + 1) steps)) ≡ length (flat (take i steps)) + 1
  length-more_one steps i d x l e = ap length (flat-more steps i d l ∙ ap (λ z. flat (take i steps) ++ z) e) ∙ length-append (flat (take i steps)) (x ∷ [])

  length-more_none : (steps : List Step) (i : ℕ) (d : Step) → i < length steps → by (get_or steps i d).event ≡ [] → length (flat (take (i + 1) steps)) ≡ length (flat (take i steps))
  length-more_none steps i d l e = ap length (flat-more steps i d l ∙ ap (λ z. flat (take i steps) ++ z) e ∙ append-nil (flat (take i steps)))

  none_at : (steps : List Step) (i n : ℕ) → length steps ≤ i → length (flat (take i steps)) ≤ n → slice_get (flat steps) n ≡ None
  none_at steps i n l m = slice_get_past (flat steps) n (omega (arith, m, ap (λ z. length (flat z)) (take_all i steps l)))

-- THE REPLIES OF A HOST

came-collected : (h e : ℕ) (H : History) → replies_from h e H ≡ collected (reply_by h e) H
came-collected h e [] = refl
came-collected h e (s ∷ before) = ap (λ z. z ++ reply_by h e s.event) (came-collected h e before)

came-flat : (h e : ℕ) (steps : List Step) → replies_from h e (history_of steps) ≡ flat (reply_by h e) steps
came-flat h e steps = came-collected h e (history_of steps) ∙ collected_is_flat (reply_by h e) steps

requests-collected : (c : ℕ) (H : History) → requests c H ≡ collected (request_by c) H
requests-collected c [] = refl
requests-collected c (s ∷ before) = ap (λ z. z ++ request_by c s.event) (requests-collected c before)

requests-flat : (c : ℕ) (steps : List Step) → requests c (history_of steps) ≡ flat (request_by c) steps
requests-flat c steps = requests-collected c (history_of steps) ∙ collected_is_flat (request_by c) steps

-- one found, and none, in the words of replies and of requests
pub reply_found : (h e : ℕ) (steps : List Step) (i : ℕ) (d : Step) (x : Tree) (n : ℕ) → i < length steps → reply_by h e (get_or steps i d).event ≡ x ∷ [] → n ≡ length (replies_from h e (history_of (take i steps))) → slice_get (replies_from h e (history_of steps)) n ≡ Some x
reply_found h e steps i d x n l b m = ap (λ z. slice_get z n) (came-flat h e steps) ∙ found_at (reply_by h e) steps i d x n l b (m ∙ ap length (came-flat h e (take i steps)))

pub replies-one : (h e : ℕ) (steps : List Step) (i : ℕ) (d : Step) (x : Tree) → i < length steps → reply_by h e (get_or steps i d).event ≡ x ∷ [] → length (replies_from h e (history_of (take (i + 1) steps))) ≡ length (replies_from h e (history_of (take i steps))) + 1
replies-one h e steps i d x l b = ap length (came-flat h e (take (i + 1) steps)) ∙ length-more_one (reply_by h e) steps i d x l b ∙ ap (λ z. length z + 1) (sym (came-flat h e (take i steps)))

pub replies-none : (h e : ℕ) (steps : List Step) (i : ℕ) (d : Step) → i < length steps → reply_by h e (get_or steps i d).event ≡ [] → length (replies_from h e (history_of (take (i + 1) steps))) ≡ length (replies_from h e (history_of (take i steps)))
replies-none h e steps i d l b = ap length (came-flat h e (take (i + 1) steps)) ∙ length-more_none (reply_by h e) steps i d l b ∙ ap length (sym (came-flat h e (take i steps)))

pub reply_not_found : (h e : ℕ) (steps : List Step) (i n : ℕ) → length steps ≤ i → length (replies_from h e (history_of (take i steps))) ≤ n → slice_get (replies_from h e (history_of steps)) n ≡ None
reply_not_found h e steps i n l m = ap (λ z. slice_get z n) (came-flat h e steps) ∙ none_at (reply_by h e) steps i n l (omega (arith, m, ap length (came-flat h e (take i steps))))

pub request_found : (c : ℕ) (steps : List Step) (i : ℕ) (d : Step) (x : Request) (n : ℕ) → i < length steps → request_by c (get_or steps i d).event ≡ x ∷ [] → n ≡ length (requests c (history_of (take i steps))) → slice_get (requests c (history_of steps)) n ≡ Some x
request_found c steps i d x n l b m = ap (λ z. slice_get z n) (requests-flat c steps) ∙ found_at (request_by c) steps i d x n l b (m ∙ ap length (requests-flat c (take i steps)))

pub requests-one : (c : ℕ) (steps : List Step) (i : ℕ) (d : Step) (x : Request) → i < length steps → request_by c (get_or steps i d).event ≡ x ∷ [] → length (requests c (history_of (take (i + 1) steps))) ≡ length (requests c (history_of (take i steps))) + 1
requests-one c steps i d x l b = ap length (requests-flat c (take (i + 1) steps)) ∙ length-more_one (request_by c) steps i d x l b ∙ ap (λ z. length z + 1) (sym (requests-flat c (take i steps)))

pub requests-none : (c : ℕ) (steps : List Step) (i : ℕ) (d : Step) → i < length steps → request_by c (get_or steps i d).event ≡ [] → length (requests c (history_of (take (i + 1) steps))) ≡ length (requests c (history_of (take i steps)))
requests-none c steps i d l b = ap length (requests-flat c (take (i + 1) steps)) ∙ length-more_none (request_by c) steps i d l b ∙ ap length (sym (requests-flat c (take i steps)))

pub request_not_found : (c : ℕ) (steps : List Step) (i n : ℕ) → length steps ≤ i → length (requests c (history_of (take i steps))) ≤ n → slice_get (requests c (history_of steps)) n ≡ None
request_not_found c steps i n l m = ap (λ z. slice_get z n) (requests-flat c steps) ∙ none_at (request_by c) steps i n l (omega (arith, m, ap length (requests-flat c (take i steps))))

-- COUNTS AND WHETHER THERE IS ONE

pub has-times : (is : Event → Bool) (H : History) → nat_lt 0 (times is H) ≡ has is H
has-times is [] = refl
has-times is (s ∷ H) = elim (cases_Bool (is s.event)) [ inl e ↦ rw e (some (times is H)) | inr e ↦ rw e (has-times is H) ]
  where
    some : (n : ℕ) → nat_lt 0 (n + 1) ≡ true
    some n = lt-ltb 0 (n + 1) (omega arith)
