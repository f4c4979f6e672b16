-- A command that was just accepted, as its parts get their values.
use Rattle.std.proofs.Common.{◌≡◌, ℕ, suc, ◌+◌, ◌-◌, ◌<◌, List, [], ◌∷◌, ◌++◌, length, map, replicate, slice_set, get_or, take, Option, Some, None, nat_lt, false, refl, sym, ap, ◌∙◌, arith}
use Rattle.std.specs.Prelude.{slice_get}
use Rattle.std.specs.Option.{option_and_then}
use Rattle.std.proofs.lemmas.Bool.{false_from_ne_true, ltb-true}
use Rattle.std.proofs.lemmas.List.{take_more, map-append, length-map, length-take-le, append_assoc}
use Rattle.list_lemmas.proofs.CallerLemmas.{changed_at-append}
use Rattle.resp_core.specs.Tree.{Tree}
use Rattle.splitter.specs.declared.plans.Join.{Join}
use Rattle.reply_queue.specs.Command.{AwaitedCommand, with_value}
use Rattle.reply_queue.specs.Queue.{QueueState, IsOpen, with_part}
use Rattle.proxy_core.specs.Places.{value_at, value_of_placed, with_value_at}
use Rattle.proxy_core.specs.declared.state.place.Place.{Place}
use Rattle.proxy_core.specs.declared.state.place.Place.TheVariants.{Waits, NoHost, Busy}
use Rattle.proxy_core.specs.declared.state.place.Placed.{Placed}

-- LISTS

slice_get-behind : {X : Type 0} (xs : List X) (y : X) (ys : List X) → slice_get (xs ++ y ∷ ys) (length xs) ≡ Some y
slice_get-behind [] y ys = refl
slice_get-behind (x ∷ xs) y ys = slice_get-behind xs y ys

slice_set-behind : {X : Type 0} (xs : List X) (y z : X) (ys : List X) → slice_set (xs ++ y ∷ ys) (length xs) z ≡ xs ++ z ∷ ys
slice_set-behind [] y z ys = refl
slice_set-behind (x ∷ xs) y z ys = ap (λ zs. x ∷ zs) (slice_set-behind xs y z ys)

-- THE NEWEST COMMAND

-- a queue whose newest command has these values
abbrev pub queue_with : ℕ → List AwaitedCommand → Join → List (Option Tree) → QueueState
queue_with popped commands how values = record { popped = popped; commands = commands ++ (record { how = how; values = values }) ∷ [] }

not_popped : (n m : ℕ) → nat_lt (n + m) n ≡ false
not_popped n m = false_from_ne_true _ (λ t. omega (arith, ltb-true (n + m) n t))

-- its next part has no value
pub open_next : (popped : ℕ) (commands : List AwaitedCommand) (how : Join) (front rest : List (Option Tree)) (command part : ℕ)
    → command ≡ popped + length commands → part ≡ length front → IsOpen (queue_with popped commands how (front ++ None ∷ rest)) command part
open_next popped commands how front rest command part e f =
    let there : (popped + length commands) - popped ≡ length commands = omega arith in
    rw (e, f, not_popped popped (length commands), there)
    (ap (option_and_then (λ (k : AwaitedCommand). slice_get k.values (length front)))
    (slice_get-behind commands (record { how = how; values = front ++ None ∷ rest }) [])
    ∙ slice_get-behind front None rest)

part_set : (popped : ℕ) (commands : List AwaitedCommand) (how : Join) (front rest : List (Option Tree)) (command part : ℕ) (v : Tree)
    → command ≡ popped + length commands → part ≡ length front
    → with_part command part v (queue_with popped commands how (front ++ None ∷ rest)) ≡ queue_with popped commands how (front ++ Some v ∷ rest)
part_set popped commands how front rest command part v e f =
    let there : (popped + length commands) - popped ≡ length commands = omega arith in
    rw (e, f, there)
    (ap (λ z. record { popped = popped; commands = z })
    (changed_at-append (with_value (length front) v) commands (record { how = how; values = front ++ None ∷ rest }) []
    ∙ ap (λ z. commands ++ (record { how = how; values = z }) ∷ []) (slice_set-behind front None (Some v) rest)))

-- and gets what its place gives it
pub value_given : (place : Place) (popped : ℕ) (commands : List AwaitedCommand) (how : Join) (front rest : List (Option Tree)) (command part : ℕ)
    → command ≡ popped + length commands → part ≡ length front
    → with_value_at place command part (queue_with popped commands how (front ++ None ∷ rest)) ≡ queue_with popped commands how (front ++ value_at place ∷ rest)
value_given (Waits h) popped commands how front rest command part e f = refl
value_given NoHost popped commands how front rest command part e f = part_set popped commands how front rest command part _ e f
value_given Busy popped commands how front rest command part e f = part_set popped commands how front rest command part _ e f

-- of n that are left one is the next
pub nones_left : (n i : ℕ) → i < n → replicate {A = Option Tree} (n - i) None ≡ None ∷ replicate (n - (i + 1)) None
nones_left n i l = let e : n - i ≡ suc (n - (i + 1)) = omega (arith, l) in rw e refl

-- one part more has what it gets at once
pub parts_more : (q : QueueState) (popped : ℕ) (commands : List AwaitedCommand) (how : Join) (placed : List Placed) (i : ℕ) (d : Placed) (command : ℕ)
    → command ≡ popped + length commands → i < length placed
    → q ≡ queue_with popped commands how (map value_of_placed (take i placed) ++ replicate (length placed - i) None)
    → with_value_at (get_or placed i d).place command i q
    ≡ queue_with popped commands how (map value_of_placed (take (i + 1) placed) ++ replicate (length placed - (i + 1)) None)
parts_more q popped commands how placed i d command e l is =
    let front = map value_of_placed (take i placed) in
    let rest = replicate {A = Option Tree} (length placed - (i + 1)) None in
    let p = get_or placed i d in
    let so_many : i ≡ length front = sym (length-map (take i placed) value_of_placed ∙ length-take-le i placed (omega (arith, l))) in
    let before : q ≡ queue_with popped commands how (front ++ None ∷ rest) = is ∙ ap (λ z. queue_with popped commands how (front ++ z)) (nones_left (length placed) i l) in
    let one_more : map value_of_placed (take (i + 1) placed) ≡ front ++ value_of_placed p ∷ [] =
    ap (map value_of_placed) (take_more placed i d l) ∙ map-append value_of_placed (take i placed) (p ∷ []) in
    ap (with_value_at p.place command i) before
    ∙ value_given p.place popped commands how front rest command i e so_many
    ∙ sym (ap (λ z. queue_with popped commands how (z ++ rest)) one_more ∙ ap (queue_with popped commands how) (append_assoc front (value_of_placed p ∷ []) rest))

pub same_queue : (q : QueueState) (popped : ℕ) (commands : List AwaitedCommand) → q.popped ≡ popped → q.commands ≡ commands → q ≡ record { popped = popped; commands = commands }
same_queue q popped commands e f = rw (← e, ← f) refl

-- a command of one part with its value
pub one_set : (q : QueueState) (popped : ℕ) (commands : List AwaitedCommand) (how : Join) (command : ℕ) (v : Tree) → command ≡ popped + length commands
    → q.popped ≡ popped → q.commands ≡ commands ++ (record { how = how; values = None ∷ [] }) ∷ []
    → with_part command 0 v q ≡ queue_with popped commands how (Some v ∷ [])
one_set q popped commands how command v e f g =
    ap (with_part command 0 v) (same_queue q popped (commands ++ (record { how = how; values = None ∷ [] }) ∷ []) f g)
    ∙ part_set popped commands how [] [] command 0 v e refl
