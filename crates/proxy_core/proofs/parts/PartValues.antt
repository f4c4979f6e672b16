-- The connections with any values of their parts, and how they change where parts get values.
use Rattle.std.proofs.Common.{◌≡◌, ℕ, zero, suc, ◌+◌, ◌-◌, ◌<◌, ◌≤◌, ◌==◌, ◌&&◌, true, false, if◌then◌else◌, List, [], ◌∷◌, map, filter, drop, Option, Some, None, Contains, slice_get, slice_set, option_map, refl, sym, ap, ◌∙◌, subst, inl, inr, arith}
use Rattle.std.specs.List.{range_with_len}
use Rattle.std.proofs.lemmas.Bool.{cases_Bool, and_parts, and_left, and_right, eq-eqb, ne_eqb, eqb-true}
use Rattle.list_lemmas.specs.Lists.{changed_at}
use Rattle.list_lemmas.proofs.CallerLemmas.{changed_at-drop, Contains-filter, map-range_same, changed_at-table, Contains-first, Contains-later, filter-passes}
use Rattle.resp_core.specs.Tree.{Tree}
use Rattle.splitter.specs.Plan.{Plan, here, leave, parts}
use Rattle.splitter.specs.declared.plans.Join.{Join}
use Rattle.splitter.specs.declared.plans.Join.TheVariants.{Same}
use Rattle.splitter.specs.declared.plans.PartPlan.{PartPlan}
use Rattle.splitter.specs.declared.request.Request.{Request}
use Rattle.reply_queue.specs.Command.{AwaitedCommand, with_value}
use Rattle.reply_queue.specs.Queue.{QueueState, with_part}
use Rattle.proxy_history.specs.History.{History, plan_for, openings, handed_count, requests, is_closed, is_finishing}
use Rattle.proxy_history.specs.Part.{Part, Past, is_same}
use Rattle.proxy_history.specs.Value.{value_of}
use Rattle.proxy_history.specs.Outcome.{is_part_of}
use Rattle.proxy_core.specs.Connections.{awaited_by, awaited_from, connection_of, connections_of, answered_part}
use Rattle.proxy_core.specs.Pipelines.{owner_of_part}
use Rattle.proxy_core.specs.declared.state.connection.Connection.{Connection}
use Rattle.proxy_core.proofs.parts.PartNumbers.{AreNumbered, IsAsked}

-- A value or none yet for each part.
abbrev pub Values : Type 0
Values = Part → Option Tree

-- WITH THESE VALUES

abbrev pub own_parts : List Part → ℕ → ℕ → List Part
own_parts ps c i = filter (is_part_of c i) ps

abbrev pub valued_by : Values → List Part → ℕ → ℕ → Plan → AwaitedCommand
valued_by f ps c i (here name value) = record { how = Same; values = Some value ∷ [] }
valued_by f ps c i (leave name value) = record { how = Same; values = Some value ∷ [] }
valued_by f ps c i (parts how list) = record { how = how; values = map f (own_parts ps c i) }

abbrev pub valued_from : Values → List Part → ℕ → ℕ → List Request → List AwaitedCommand
valued_from f ps c i [] = []
valued_from f ps c i (r ∷ rs) = valued_by f ps c i (plan_for r) ∷ valued_from f ps c (i + 1) rs

abbrev pub valued_queue : Values → List Part → History → ℕ → QueueState
valued_queue f ps H c = record { popped = handed_count c H; commands = drop (handed_count c H) (valued_from f ps c 0 (requests c H)) }

abbrev pub valued_connection : Values → List Part → History → ℕ → Option Connection
valued_connection f ps H c = if is_closed c H then None else Some (record { queue = valued_queue f ps H c; is_finishing = is_finishing c H })

abbrev pub valued : Values → List Part → History → List (Option Connection)
valued f ps H = map (valued_connection f ps H) (range_with_len 0 (openings H))

-- what a history determines is so with the values that it determines
same_by : (x : Past) (c i : ℕ) (p : Plan) → awaited_by x c i p ≡ valued_by (value_of x) x.parts c i p
same_by x c i (here name value) = refl
same_by x c i (leave name value) = refl
same_by x c i (parts how list) = refl

same_from : (x : Past) (c i : ℕ) (rs : List Request) → awaited_from x c i rs ≡ valued_from (value_of x) x.parts c i rs
same_from x c i [] = refl
same_from x c i (r ∷ rs) = rw (same_by x c i (plan_for r), same_from x c (i + 1) rs) refl

pub connection-valued : (x : Past) (c : ℕ) → connection_of x c ≡ valued_connection (value_of x) x.parts x.steps c
connection-valued x c =
    ap (λ (z : List AwaitedCommand). if is_closed c x.steps then None else Some (record { queue = record { popped = handed_count c x.steps; commands = drop (handed_count c x.steps) z }; is_finishing = is_finishing c x.steps }))
    (same_from x c 0 (requests c x.steps))

pub connections-valued : (x : Past) → connections_of x ≡ valued (value_of x) x.parts x.steps
connections-valued x = map-range_same _ _ 0 (openings x.steps) (λ j l m. connection-valued x j)

-- OTHER VALUES ELSEWHERE

is_part_of-parts : (c i : ℕ) (q : Part) → is_part_of c i q ≡ true → (q.conn ≡ c) × (q.command ≡ i)
is_part_of-parts c i q e = let a = and_parts (q.conn == c) (q.command == i) e in (eqb-true q.conn c a.0, eqb-true q.command i a.1)

same_values : (f g : Values) (ps : List Part) → ((q : Part) → Contains ps q → f q ≡ g q) → map f ps ≡ map g ps
same_values f g [] e = refl
same_values f g (p ∷ ps) e = rw (e p (Contains-first p ps), same_values f g ps (λ q h. e q (Contains-later p ps q h))) refl

module _ (f g : Values) (ps : List Part) (c : ℕ) where
  -- the same of this command
  same_own : (i : ℕ) → ((q : Part) → Contains ps q → q.conn ≡ c → q.command ≡ i → f q ≡ g q) → map f (own_parts ps c i) ≡ map g (own_parts ps c i)
  same_own i e = same_values f g (own_parts ps c i) (λ q h.
      let a = is_part_of-parts c i q (filter-passes (is_part_of c i) ps q h) in
      e q (Contains-filter (is_part_of c i) ps q h) a.0 a.1)

  same_command : (i : ℕ) (p : Plan) → ((q : Part) → Contains ps q → q.conn ≡ c → q.command ≡ i → f q ≡ g q) → valued_by f ps c i p ≡ valued_by g ps c i p
  same_command i (here name value) e = refl
  same_command i (leave name value) e = refl
  same_command i (parts how list) e = ap (λ (z : List (Option Tree)). record { how = how; values = z }) (same_own i e)

  same_commands : (i : ℕ) (rs : List Request) → ((q : Part) → Contains ps q → q.conn ≡ c → i ≤ q.command → f q ≡ g q) → valued_from f ps c i rs ≡ valued_from g ps c i rs
  same_commands i [] e = refl
  same_commands i (r ∷ rs) e =
      rw (same_command i (plan_for r) (λ q h k j. e q h k (omega (arith, j))), same_commands (i + 1) rs (λ q h k l. e q h k (omega (arith, l)))) refl

  -- an open connection in whose parts the values are the same is the same
  pub same_connection : (H : History) → (is_closed c H ≡ false → (q : Part) → Contains ps q → q.conn ≡ c → f q ≡ g q) → valued_connection f ps H c ≡ valued_connection g ps H c
  same_connection H e = elim (cases_Bool (is_closed c H)) [
    | inl t ↦ rw t refl
    | inr n ↦ rw (n, same_commands 0 (requests c H) (λ q h k l. e n q h k)) refl
  ]

-- connections are the same where the values of the parts of the open ones are
pub same_valued : (f g : Values) (ps : List Part) (H : History) → ((q : Part) → Contains ps q → is_closed q.conn H ≡ false → f q ≡ g q) → valued f ps H ≡ valued g ps H
same_valued f g ps H e = map-range_same _ _ 0 (openings H) (λ c l m. same_connection f g ps c H (λ o q h k. e q h (ap (λ z. is_closed z H) k ∙ o)))

-- ONE PART GETS A VALUE

-- the values once this part has one
abbrev pub having : Part → Tree → Values → Values
having p v f q = if is_same q p then Some v else f q

pub having-other : (p : Part) (v : Tree) (f : Values) (q : Part) → is_same q p ≡ false → having p v f q ≡ f q
having-other p v f q e = rw e refl

pub having-same : (p : Part) (v : Tree) (f : Values) (q : Part) → is_same q p ≡ true → having p v f q ≡ Some v
having-same p v f q e = rw e refl

other_command : (p q : Part) → (q.command ≡ p.command → ⊥) → is_same q p ≡ false
other_command p q n = and_left _ (q.number == p.number) (and_right (q.conn == p.conn) _ (ne_eqb q.command p.command n))

other_conn : (p q : Part) → (q.conn ≡ p.conn → ⊥) → is_same q p ≡ false
other_conn p q n = and_left _ (q.number == p.number) (and_left _ (q.command == p.command) (ne_eqb q.conn p.conn n))

other_number : (p q : Part) → (q.number ≡ p.number → ⊥) → is_same q p ≡ false
other_number p q n = and_right ((q.conn == p.conn) && (q.command == p.command)) _ (ne_eqb q.number p.number n)

same_part : (p q : Part) → q.conn ≡ p.conn → q.command ≡ p.command → q.number ≡ p.number → is_same q p ≡ true
same_part p q a b c = rw (eq-eqb q.conn p.conn a, eq-eqb q.command p.command b, eq-eqb q.number p.number c) refl

-- behind its place nothing changes
none_behind : (p : Part) (v : Tree) (f : Values) (n : ℕ) (ps : List Part) → AreNumbered n ps → p.number < n → map f ps ≡ map (having p v f) ps
none_behind p v f n [] a l = refl
none_behind p v f n (q ∷ ps) a l =
    rw (having-other p v f q (other_number p q (λ e. omega (arith, a.0, e, l))), none_behind p v f (n + 1) ps a.1 (omega (arith, l))) refl

-- the values of the command's parts, with one more in its place
one_more_value : (p : Part) (v : Tree) (f : Values) (n k : ℕ) (ps : List Part) → AreNumbered n ps → ((q : Part) → Contains ps q → (q.conn ≡ p.conn) × (q.command ≡ p.command)) → n + k ≡ p.number
    → slice_set (map f ps) k (Some v) ≡ map (having p v f) ps
one_more_value p v f n k [] a o e = refl
one_more_value p v f n zero (q ∷ ps) a o e =
    let b = o q (Contains-first q ps) in
    let here : having p v f q ≡ Some v = having-same p v f q (same_part p q b.0 b.1 (omega (arith, a.0, e))) in
    rw (here, none_behind p v f (n + 1) ps a.1 (omega (arith, e))) refl
one_more_value p v f n (suc k) (q ∷ ps) a o e =
    let there : having p v f q ≡ f q = having-other p v f q (other_number p q (λ i. omega (arith, a.0, i, e))) in
    rw there (ap (λ z. f q ∷ z) (one_more_value p v f (n + 1) k ps a.1 (λ r h. o r (Contains-later q ps r h)) (omega (arith, e))))

-- A part that may get a value: its command is there and not handed out, it stands in the place of its number.
pub record IsThere (ps : List Part) (H : History) (p : Part) : Type 0 where
  pub numbered : AreNumbered 0 (own_parts ps p.conn p.command)
  pub in_place : slice_get (own_parts ps p.conn p.command) p.number ≡ Some p
  pub asked : IsAsked H p
  pub is_opened : p.conn < openings H
  pub is_open : is_closed p.conn H ≡ false
  pub not_handed : handed_count p.conn H ≤ p.command

module _ (f : Values) (ps : List Part) (p : Part) (v : Tree) where
  own_command : AreNumbered 0 (own_parts ps p.conn p.command) → (plan : Plan) (how : Join) (list : List PartPlan) → plan ≡ parts how list
      → with_value p.number v (valued_by f ps p.conn p.command plan) ≡ valued_by (having p v f) ps p.conn p.command plan
  own_command a plan how list e =
      subst (λ (z : Plan). with_value p.number v (valued_by f ps p.conn p.command z) ≡ valued_by (having p v f) ps p.conn p.command z) (sym e)
      (ap (λ (z : List (Option Tree)). record { how = how; values = z })
      (one_more_value p v f 0 p.number (own_parts ps p.conn p.command) a (λ q h. is_part_of-parts p.conn p.command q (filter-passes (is_part_of p.conn p.command) ps q h)) (omega arith)))

  own_commands : AreNumbered 0 (own_parts ps p.conn p.command) → (i k : ℕ) (rs : List Request) → i + k ≡ p.command
      → (r : Request) → slice_get rs k ≡ Some r → (how : Join) (list : List PartPlan) → plan_for r ≡ parts how list
      → changed_at (with_value p.number v) k (valued_from f ps p.conn i rs) ≡ valued_from (having p v f) ps p.conn i rs
  own_commands a i k [] e r s how list q = refl
  own_commands a i zero (t ∷ rs) e r s how list q =
      let is : t ≡ r = cc in
      let at : p.command ≡ i = omega (arith, e) in
      let now : with_value p.number v (valued_by f ps p.conn i (plan_for t)) ≡ valued_by (having p v f) ps p.conn i (plan_for t) =
      subst (λ (z : ℕ). with_value p.number v (valued_by f ps p.conn z (plan_for t)) ≡ valued_by (having p v f) ps p.conn z (plan_for t)) at
      (own_command a (plan_for t) how list (ap plan_for is ∙ q)) in
      let rest : valued_from f ps p.conn (i + 1) rs ≡ valued_from (having p v f) ps p.conn (i + 1) rs =
      same_commands f (having p v f) ps p.conn (i + 1) rs (λ z h k l. sym (having-other p v f z (other_command p z (λ j. omega (arith, j, l, at))))) in
      ap (λ z. z ∷ valued_from f ps p.conn (i + 1) rs) now ∙ ap (λ z. valued_by (having p v f) ps p.conn i (plan_for t) ∷ z) rest
  own_commands a i (suc k) (t ∷ rs) e r s how list q =
      let first : valued_by f ps p.conn i (plan_for t) ≡ valued_by (having p v f) ps p.conn i (plan_for t) =
      same_command f (having p v f) ps p.conn i (plan_for t) (λ z h c j. sym (having-other p v f z (other_command p z (λ m. omega (arith, j, m, e))))) in
      ap (λ z. z ∷ changed_at (with_value p.number v) k (valued_from f ps p.conn (i + 1) rs)) first
      ∙ ap (λ z. valued_by (having p v f) ps p.conn i (plan_for t) ∷ z) (own_commands a (i + 1) k rs (omega (arith, e)) r s how list q)

abbrev valuing : Part → Tree → Connection → Connection
valuing p v k = record k { queue = with_part p.command p.number v k.queue }

own_connection : (f : Values) (ps : List Part) (H : History) (p : Part) (v : Tree) → IsThere ps H p
    → valued_connection (having p v f) ps H p.conn ≡ option_map (valuing p v) (valued_connection f ps H p.conn)
own_connection f ps H p v t =
    let n = handed_count p.conn H in
    let rs = requests p.conn H in
    let commands : changed_at (with_value p.number v) (p.command - n) (drop n (valued_from f ps p.conn 0 rs)) ≡ drop n (valued_from (having p v f) ps p.conn 0 rs) =
    changed_at-drop (with_value p.number v) n p.command (valued_from f ps p.conn 0 rs) t.not_handed
    ∙ ap (drop n) (own_commands f ps p v t.numbered 0 p.command rs (omega arith) t.asked.request t.asked.is_request t.asked.how t.asked.list t.asked.is_split) in
    rw (t.is_open) (ap (λ (z : List AwaitedCommand). Some (record { queue = record { popped = n; commands = z }; is_finishing = is_finishing p.conn H })) (sym commands))

-- a part of the connections gets a value
pub part-valued : (f : Values) (ps : List Part) (H : History) (p : Part) (v : Tree) → IsThere ps H p → answered_part (owner_of_part p) v (valued f ps H) ≡ valued (having p v f) ps H
part-valued f ps H p v t =
    changed_at-table (valued_connection f ps H) (valued_connection (having p v f) ps H) (option_map (valuing p v)) (openings H) p.conn
    (λ l. own_connection f ps H p v t)
    (λ c l n. same_connection f (having p v f) ps c H (λ o q h k. sym (having-other p v f q (other_conn p q (λ e. n (sym k ∙ e))))))
