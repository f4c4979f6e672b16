-- The laws of a queue.
use Rattle.std.proofs.Common.{◌≡◌, ◌≢◌, ◌⊎◌, inl, inr, ◌+◌, ◌-◌, ◌≤◌, ℕ, zero, suc, Bool, true, false, cond, nat_lt, Option, Some, None, List, [], ◌∷◌, ◌++◌, length, drop, slice_get, slice_set, refl, sym, ap, ◌∙◌, arith}
use Rattle.std.specs.Option.{option_and_then}
use Rattle.std.proofs.lemmas.Bool.{cases_Bool, ltb-false, le-ltb}
use Rattle.list_lemmas.specs.Lists.{changed_at}
use Rattle.resp_core.specs.Tree.{Tree}
use Rattle.reply_queue.specs.Command.{AwaitedCommand, with_value}
use Rattle.reply_queue.specs.Queue.{QueueState, IsOpen, command_at, without_front}
use Rattle.reply_queue.specs.Laws.{PartHasItsValue, OtherPartsStay, NewestHasItsIndex, OthersKeepTheirIndex}

-- the item that was written, and another
slice_get-set_same : {X : Type 0} (xs : List X) (i : ℕ) (x y : X) → slice_get xs i ≡ Some x → slice_get (slice_set xs i y) i ≡ Some y
slice_get-set_same [] i x y e = absurd cc
slice_get-set_same (z ∷ xs) zero x y e = refl
slice_get-set_same (z ∷ xs) (suc i) x y e = slice_get-set_same xs i x y e

slice_get-set_other : {X : Type 0} (xs : List X) (i j : ℕ) (y : X) → j ≢ i → slice_get (slice_set xs i y) j ≡ slice_get xs j
slice_get-set_other [] i j y ne = refl
slice_get-set_other (z ∷ xs) zero zero y ne = absurd (ne refl)
slice_get-set_other (z ∷ xs) zero (suc j) y ne = refl
slice_get-set_other (z ∷ xs) (suc i) zero y ne = refl
slice_get-set_other (z ∷ xs) (suc i) (suc j) y ne = slice_get-set_other xs i j y (λ e. ne (ap suc e))

-- what a part of a command has
abbrev part_of : ℕ → Option AwaitedCommand → Option (Option Tree)
part_of part command = option_and_then (λ c. slice_get c.values part) command

part_given : (cs : List AwaitedCommand) (place part : ℕ) (value : Tree) → part_of part (slice_get cs place) ≡ Some None → part_of part (slice_get (changed_at (with_value part value) place cs) place) ≡ Some (Some value)
part_given [] place part value e = absurd cc
part_given (c ∷ cs) zero part value e = slice_get-set_same c.values part None (Some value) e
part_given (c ∷ cs) (suc place) part value e = part_given cs place part value e

part_kept : (cs : List AwaitedCommand) (place part : ℕ) (value : Tree) (other_place other_part : ℕ) → (other_place ≢ place) ⊎ (other_part ≢ part) → part_of other_part (slice_get (changed_at (with_value part value) place cs) other_place) ≡ part_of other_part (slice_get cs other_place)
part_kept [] place part value other_place other_part h = refl
part_kept (c ∷ cs) zero part value zero other_part (inl ne) = absurd (ne refl)
part_kept (c ∷ cs) zero part value zero other_part (inr ne) = slice_get-set_other c.values part other_part (Some value) ne
part_kept (c ∷ cs) zero part value (suc other_place) other_part h = refl
part_kept (c ∷ cs) (suc place) part value zero other_part h = refl
part_kept (c ∷ cs) (suc place) part value (suc other_place) other_part (inl ne) = part_kept cs place part value other_place other_part (inl (λ e. ne (ap suc e)))
part_kept (c ∷ cs) (suc place) part value (suc other_place) other_part (inr ne) = part_kept cs place part value other_place other_part (inr ne)

-- the same behind the test whether the command was popped
given_unless : (popped : Bool) (cs : List AwaitedCommand) (place part : ℕ) (value : Tree) → part_of part (cond popped None (slice_get cs place)) ≡ Some None → part_of part (cond popped None (slice_get (changed_at (with_value part value) place cs) place)) ≡ Some (Some value)
given_unless true cs place part value e = absurd cc
given_unless false cs place part value e = part_given cs place part value e

pub part_has_its_value : PartHasItsValue
part_has_its_value q index part value e = given_unless (nat_lt index q.popped) q.commands (index - q.popped) part value e

-- an open part is one of a command that wasn't popped
not_popped : (q : QueueState) (index part : ℕ) → IsOpen q index part → q.popped ≤ index
not_popped q index part e = elim (cases_Bool (nat_lt index q.popped)) [
  | inl h ↦ absurd (let gone : part_of part None ≡ Some None = ap (λ b. part_of part (cond b None (slice_get q.commands (index - q.popped)))) (sym h) ∙ e in cc)
  | inr h ↦ ltb-false index q.popped h
]

kept_unless : (popped : Bool) (cs : List AwaitedCommand) (place part : ℕ) (value : Tree) (other_place other_part : ℕ) → (popped ≡ false → (other_place ≢ place) ⊎ (other_part ≢ part)) → part_of other_part (cond popped None (slice_get (changed_at (with_value part value) place cs) other_place)) ≡ part_of other_part (cond popped None (slice_get cs other_place))
kept_unless true cs place part value other_place other_part h = refl
kept_unless false cs place part value other_place other_part h = part_kept cs place part value other_place other_part (h refl)

-- other commands have other places
places_differ : (popped index part other_index other_part : ℕ) → popped ≤ index → popped ≤ other_index → (other_index ≢ index) ⊎ (other_part ≢ part) → (other_index - popped ≢ index - popped) ⊎ (other_part ≢ part)
places_differ popped index part other_index other_part l m (inl ne) = inl (λ e. ne (omega arith))
places_differ popped index part other_index other_part l m (inr ne) = inr ne

pub other_parts_stay : OtherPartsStay
other_parts_stay q index part value other_index other_part e h =
    kept_unless (nat_lt other_index q.popped) q.commands (index - q.popped) part value (other_index - q.popped) other_part
    (λ there. places_differ q.popped index part other_index other_part (not_popped q index part e) (ltb-false other_index q.popped there) h)

-- the newest item
slice_get-newest : {X : Type 0} (xs : List X) (x : X) → slice_get (xs ++ x ∷ []) (length xs) ≡ Some x
slice_get-newest [] x = refl
slice_get-newest (y ∷ xs) x = slice_get-newest xs x

-- a command that wasn't popped is found in its place
command_at-there : (q : QueueState) (place : ℕ) → command_at q (q.popped + place) ≡ slice_get q.commands place
command_at-there q place =
    ap (λ b. cond b None (slice_get q.commands (q.popped + place - q.popped))) (le-ltb (q.popped + place) q.popped (omega arith))
    ∙ ap (slice_get q.commands) (omega arith)

pub newest_has_its_index : NewestHasItsIndex
newest_has_its_index q r command e f =
    ap (λ n. command_at r (n + length q.commands)) (sym e) ∙ command_at-there r (length q.commands) ∙ ap (λ cs. slice_get cs (length q.commands)) f ∙ slice_get-newest q.commands command

slice_get-drop_one : {X : Type 0} (xs : List X) (i : ℕ) → slice_get (drop 1 xs) i ≡ slice_get xs (suc i)
slice_get-drop_one [] i = refl
slice_get-drop_one (x ∷ xs) i = refl

pub others_keep_their_index : OthersKeepTheirIndex
others_keep_their_index q index h =
    let place = index - (q.popped + 1) in
    let below : index ≡ (q.popped + 1) + place = omega (arith, h) in
    let there : index ≡ q.popped + suc place = omega (arith, h) in
    ap (command_at (without_front q)) below ∙ command_at-there (without_front q) place ∙ slice_get-drop_one q.commands place ∙ sym (command_at-there q (suc place)) ∙ ap (command_at q) (sym there)
