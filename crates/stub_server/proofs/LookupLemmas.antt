-- Look-up in a map after a change, and that each key stands once in it.
use Rattle.std.proofs.Common.{◌≡◌, ℕ, Bool, true, false, not, List, [], ◌∷◌, Option, Some, None, length, filter, if◌then◌else◌, ℤ, inl, inr, refl, sym, ap, ◌∙◌}
use Rattle.std.specs.Str.{bytes_eq}
use Rattle.std.proofs.lemmas.Bool.{cases_Bool, and_parts}
use Rattle.std.proofs.lemmas.Slice.Eq.{bytes_eq-Decides}
use Rattle.resp_core.specs.Tree.{Tree}
use Rattle.stub_server.specs.declared.command.Command.{Command}
use Rattle.stub_server.specs.declared.command.Command.TheVariants.{Get, Set, Del, Exists, Incr}
use Rattle.stub_server.specs.declared.map.Entry.{Entry}
use Rattle.stub_server.specs.Command.{command_named, takes}
use Rattle.resp_core.specs.Command.{is_command, words_of, word}
use Rattle.stub_server.specs.Map.{Map, value_at, is_key, with_value, names_key, map_without, has_distinct_keys}
use Rattle.stub_server.specs.Number.{one_more}
use Rattle.stub_server.specs.Table.{Outcome, gives, unknown_command, wrong_number, number_at, counted_reply, incremented_reply, outcome_by, outcome_named, outcome_of_words, map_after}

equal : (xs ys : List ℕ) → bytes_eq xs ys ≡ true → xs ≡ ys
equal xs ys = (bytes_eq-Decides xs ys).0

-- a test that is true isn't false
both : (b : Bool) → b ≡ true → b ≡ false → ⊥
both b e f = let g : true ≡ false = sym e ∙ f in cc

-- what differs from bytes one way differs from them the other way
differ : (xs ys : List ℕ) → bytes_eq xs ys ≡ false → bytes_eq ys xs ≡ false
differ xs ys f =
    elim (cases_Bool (bytes_eq ys xs)) [
      | inl g ↦ absurd (both (bytes_eq xs ys) ((bytes_eq-Decides xs ys).1 (sym (equal ys xs g))) f)
      | inr g ↦ g
    ]

pub value_at-with_value : (key value other : List ℕ) (m : Map) → value_at other (with_value key value m) ≡ (if bytes_eq key other then Some value else value_at other m)
value_at-with_value key value other [] =
    elim (cases_Bool (bytes_eq key other)) [ inl g ↦ rw g refl | inr g ↦ rw g refl ]
value_at-with_value key value other (x ∷ m) =
    elim (cases_Bool (bytes_eq x.key key)) [
      | inl f ↦
          let same : bytes_eq x.key other ≡ bytes_eq key other = ap (λ z. bytes_eq z other) (equal x.key key f) in
          elim (cases_Bool (bytes_eq key other)) [
            | inl g ↦ let h : bytes_eq x.key other ≡ true = same ∙ g in rw (f, h, g) refl
            | inr g ↦ let h : bytes_eq x.key other ≡ false = same ∙ g in rw (f, h, g) refl
          ]
      | inr f ↦
          elim (cases_Bool (bytes_eq x.key other)) [
            | inl g ↦ let h : bytes_eq key other ≡ false = ap (bytes_eq key) (sym (equal x.key other g)) ∙ differ x.key key f in rw (f, g, h) refl
            | inr g ↦ rw (f, g) (value_at-with_value key value other m)
          ]
    ]

pub value_at-without : (keys : List (List ℕ)) (other : List ℕ) (m : Map) → value_at other (map_without keys m) ≡ (if names_key keys other then None else value_at other m)
value_at-without keys other [] = elim (cases_Bool (names_key keys other)) [ inl g ↦ rw g refl | inr g ↦ rw g refl ]
value_at-without keys other (x ∷ m) =
    let next = value_at-without keys other m in
    elim (cases_Bool (bytes_eq x.key other)) [
      | inl g ↦
          let same : names_key keys x.key ≡ names_key keys other = ap (names_key keys) (equal x.key other g) in
          elim (cases_Bool (names_key keys other)) [
            | inl f ↦ let h : names_key keys x.key ≡ true = same ∙ f in rw (h, f) (rw f at next)
            | inr f ↦ let h : names_key keys x.key ≡ false = same ∙ f in rw (h, f, g) refl
          ]
      | inr g ↦
          elim (cases_Bool (names_key keys x.key)) [
            | inl f ↦ rw (f, g) next
            | inr f ↦ rw (f, g) next
          ]
    ]

-- a key that is none of a map is none of it after another was set
is_key-with_value : (key value other : List ℕ) (m : Map) → bytes_eq key other ≡ false → is_key m other ≡ false → is_key (with_value key value m) other ≡ false
is_key-with_value key value other [] d e = rw d refl
is_key-with_value key value other (x ∷ m) d e =
    elim (cases_Bool (bytes_eq x.key other)) [
      | inl g ↦ let h : true ≡ false = rw g at e in cc
      | inr g ↦
          let rest : is_key m other ≡ false = rw g at e in
          elim (cases_Bool (bytes_eq x.key key)) [
            | inl f ↦ rw (f, g) rest
            | inr f ↦ rw (f, g) (is_key-with_value key value other m d rest)
          ]
    ]

-- and after some were taken out
is_key-filter : (p : Entry → Bool) (other : List ℕ) (m : Map) → is_key m other ≡ false → is_key (filter p m) other ≡ false
is_key-filter p other [] e = refl
is_key-filter p other (x ∷ m) e =
    elim (cases_Bool (bytes_eq x.key other)) [
      | inl g ↦ let h : true ≡ false = rw g at e in cc
      | inr g ↦
          let rest : is_key m other ≡ false = rw g at e in
          elim (cases_Bool (p x)) [
            | inl f ↦ rw (f, g) (is_key-filter p other m rest)
            | inr f ↦ rw f (is_key-filter p other m rest)
          ]
    ]

-- the first key and the keys behind it
first_alone : (x : Entry) (m : Map) → has_distinct_keys (x ∷ m) ≡ true → (is_key m x.key ≡ false) × (has_distinct_keys m ≡ true)
first_alone x m h =
    let p = and_parts (not (is_key m x.key)) (has_distinct_keys m) h in
    elim (cases_Bool (is_key m x.key)) [
      | inl f ↦ let g : false ≡ true = rw f at p.0 in cc
      | inr f ↦ (f, p.1)
    ]

distinct-with_value : (key value : List ℕ) (m : Map) → has_distinct_keys m ≡ true → has_distinct_keys (with_value key value m) ≡ true
distinct-with_value key value [] h = refl
distinct-with_value key value (x ∷ m) h =
    let p = first_alone x m h in
    elim (cases_Bool (bytes_eq x.key key)) [
      | inl f ↦ rw (f, p.0, p.1) refl
      | inr f ↦ rw (f, is_key-with_value key value x.key m (differ x.key key f) p.0, distinct-with_value key value m p.1) refl
    ]

distinct-filter : (p : Entry → Bool) (m : Map) → has_distinct_keys m ≡ true → has_distinct_keys (filter p m) ≡ true
distinct-filter p [] h = refl
distinct-filter p (x ∷ m) h =
    let q = first_alone x m h in
    elim (cases_Bool (p x)) [
      | inl f ↦ rw (f, is_key-filter p x.key m q.0, distinct-filter p m q.1) refl
      | inr f ↦ rw f (distinct-filter p m q.1)
    ]

distinct-counted : (m : Map) (key : List ℕ) (o : Option ℤ) → has_distinct_keys m ≡ true → has_distinct_keys (counted_reply m key o).map ≡ true
distinct-counted m key None h = h
distinct-counted m key (Some n) h = distinct-with_value key _ m h

distinct-incremented : (m : Map) (key : List ℕ) (o : Option ℤ) → has_distinct_keys m ≡ true → has_distinct_keys (incremented_reply m key o).map ≡ true
distinct-incremented m key None h = h
distinct-incremented m key (Some n) h = distinct-counted m key (one_more n) h

distinct-by : (m : Map) (command : Command) (words : List (List ℕ)) → has_distinct_keys m ≡ true → has_distinct_keys (outcome_by m command words).map ≡ true
distinct-by m Get words h = h
distinct-by m Set words h = distinct-with_value (word words 1) (word words 2) m h
distinct-by m Del words h = distinct-filter _ m h
distinct-by m Exists words h = h
distinct-by m Incr words h = distinct-incremented m (word words 1) (number_at (word words 1) m) h

-- of two outcomes the one or the other
distinct-chosen : (b : Bool) (o other : Outcome) → has_distinct_keys o.map ≡ true → has_distinct_keys other.map ≡ true → has_distinct_keys (if b then o else other).map ≡ true
distinct-chosen true o other h k = h
distinct-chosen false o other h k = k

distinct-named : (m : Map) (o : Option Command) (words : List (List ℕ)) → has_distinct_keys m ≡ true → has_distinct_keys (outcome_named m o words).map ≡ true
distinct-named m None words h = h
distinct-named m (Some command) words h = distinct-chosen (takes command (length words)) (outcome_by m command words) (gives wrong_number m) (distinct-by m command words h) h

pub distinct-map_after : (m : Map) (t : Tree) → has_distinct_keys m ≡ true → has_distinct_keys (map_after m t) ≡ true
distinct-map_after m t h = distinct-chosen (is_command t) (outcome_of_words m (words_of t)) (gives unknown_command m) (distinct-named m (command_named (word (words_of t) 0)) (words_of t) h) h
