-- A connection of which nothing is left to hand out has no part on any pipe.
use Rattle.std.proofs.Common.{◌≡◌, ℕ, zero, suc, nat_lt, List, [], ◌∷◌, ◌++◌, length, map, filter, filter_map, Option, Some, None, option_and_then, slice_get, refl, sym, ap, ◌∙◌, inl, inr, subst, arith}
use Rattle.std.proofs.lemmas.Bool.{cases_Bool, ne_eqb}
use Rattle.list_lemmas.specs.Lists.{changed_at}
use Rattle.resp_core.specs.Tree.{Tree}
use Rattle.upstream_pipe.specs.declared.part.Owner.{Owner}
use Rattle.upstream_pipe.specs.declared.part.Part.{Part as PipePart}
use Rattle.upstream_pipe.specs.Pipe.{owner_in, is_kept, forgotten_owner}
use Rattle.reply_queue.specs.Command.{AwaitedCommand}
use Rattle.reply_queue.specs.Queue.{QueueState, IsOpen, command_at, value_at}
use Rattle.proxy_history.specs.Value.{upstream_failure}
use Rattle.proxy_core.specs.declared.state.connection.Connection.{Connection}
use Rattle.proxy_core.specs.Connections.{IsAwaited, AreAwaited, answered_part, connection_at, left_in}
use Rattle.proxy_core.specs.Pipelines.{PipelineState, lost_owners, without_connection, pipeline_at}
use Rattle.proxy_core.proofs.pipelines.UnchangedPipeline.{same_pipeline}

-- each of these owners is another connection
abbrev AreOfOthers : ℕ → List Owner → Type 0
AreOfOthers c [] = Unit {0}
AreOfOthers c (o ∷ os) = (o.conn ≡ c → ⊥) × AreOfOthers c os

-- a queue without commands has no open part
no_commands : (q : QueueState) (i n : ℕ) → q.commands ≡ [] → IsOpen q i n → ⊥
no_commands q i n e is =
    let none : command_at q i ≡ None = elim (cases_Bool (nat_lt i q.popped)) [ inl t ↦ rw t refl | inr f ↦ rw (f, e) refl ] in
    let nothing : value_at q i n ≡ None = ap (option_and_then (λ (command : AwaitedCommand). slice_get command.values n)) none in
    cc (sym nothing ∙ is)

none_of_length : {X : Type 0} (xs : List X) → length xs ≡ 0 → xs ≡ []
none_of_length [] e = refl
none_of_length (x ∷ xs) e = absurd (omega (arith, e))

-- whose part has no value yet has something left
other_connection : (o : Owner) (c : ℕ) (ks : List (Option Connection)) → IsAwaited o ks → left_in (connection_at c ks) ≡ 0 → o.conn ≡ c → ⊥
other_connection o c ks a none same =
    let at : connection_at c ks ≡ Some a.connection = ap (option_and_then (λ (k : Option Connection). k)) (subst (λ (z : ℕ). slice_get ks z ≡ Some (Some a.connection)) same a.is_open) in
    no_commands a.connection.queue o.command o.part (none_of_length a.connection.queue.commands (ap left_in (sym at) ∙ none)) a.is_awaited

unchanged_at : {X : Type 0} (change : X → X) (k j : ℕ) (xs : List X) → (k ≡ j → ⊥) → slice_get (changed_at change k xs) j ≡ slice_get xs j
unchanged_at change k j [] differs = refl
unchanged_at change zero zero (x ∷ xs) differs = absurd (differs refl)
unchanged_at change zero (suc j) (x ∷ xs) differs = refl
unchanged_at change (suc k) zero (x ∷ xs) differs = refl
unchanged_at change (suc k) (suc j) (x ∷ xs) differs = unchanged_at change k j xs (λ same. differs (ap suc same))

of_others : (os : List Owner) (v : Tree) (c : ℕ) (ks : List (Option Connection)) → AreAwaited os v ks → left_in (connection_at c ks) ≡ 0 → AreOfOthers c os
of_others [] v c ks a none = tt
of_others (o ∷ os) v c ks a none =
    let other = other_connection o c ks a.0 none in
    (other, of_others os v c (answered_part o v ks) a.1 (ap (λ z. left_in (option_and_then (λ (k : Option Connection). k) z)) (unchanged_at _ o.conn c ks other) ∙ none))

first_others : (c : ℕ) (os qs : List Owner) → AreOfOthers c (os ++ qs) → AreOfOthers c os
first_others c [] qs a = tt
first_others c (o ∷ os) qs a = (a.0, first_others c os qs a.1)

later_others : (c : ℕ) (os qs : List Owner) → AreOfOthers c (os ++ qs) → AreOfOthers c qs
later_others c [] qs a = a
later_others c (o ∷ os) qs a = later_others c os qs a.1

all_wait : (c : ℕ) (ps : List PipePart) → AreOfOthers c (map owner_in ps) → filter (is_kept c) ps ≡ ps
all_wait c [] a = refl
all_wait c (p ∷ ps) a = rw (ne_eqb p.owner.conn c a.0) (ap (λ z. p ∷ z) (all_wait c ps a.1))

all_fly : (c : ℕ) (places : List (Option Owner)) → AreOfOthers c (filter_map (λ o. o) places) → map (forgotten_owner c) places ≡ places
all_fly c [] a = refl
all_fly c (None ∷ places) a = ap (λ z. None ∷ z) (all_fly c places a)
all_fly c (Some o ∷ places) a = rw (ne_eqb o.conn c a.0) (ap (λ z. Some o ∷ z) (all_fly c places a.1))

without_others : (c : ℕ) (p : PipelineState) → AreOfOthers c (lost_owners p) → without_connection c p ≡ p
without_others c p a =
    let flew = filter_map (λ o. o) p.flying in
    same_pipeline (without_connection c p) p (all_wait c p.waiting (later_others c flew (map owner_in p.waiting) a))
    (all_fly c p.flying (first_others c flew (map owner_in p.waiting) a)) refl refl

-- to forget such a connection changes no pipeline
pub map-without_connection : (c : ℕ) (ks : List (Option Connection)) (ps : List PipelineState)
    → ((h : ℕ) → AreAwaited (lost_owners (pipeline_at h ps)) upstream_failure ks) → left_in (connection_at c ks) ≡ 0 → map (without_connection c) ps ≡ ps
map-without_connection c ks [] awaited none = refl
map-without_connection c ks (p ∷ ps) awaited none =
    let first = without_others c p (of_others (lost_owners p) upstream_failure c ks (awaited 0) none) in
    ap (λ z. z ∷ map (without_connection c) ps) first ∙ ap (λ z. p ∷ z) (map-without_connection c ks ps (λ h. awaited (suc h)) none)
