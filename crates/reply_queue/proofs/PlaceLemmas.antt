-- The values that have come, each in its part's place.
use Rattle.std.proofs.Common.{◌≡◌, ◌+◌, ◌<◌, ℕ, zero, suc, Bool, true, false, not, cond, Some, None, List, [], ◌∷◌, length, map, count_by, replicate, slice_get, slice_set, IsTrue, IsSome, is_some, ◌↔◌, refl, sym, ap, ◌∙◌, arith, inl, inr}
use Rattle.std.proofs.lemmas.Bool.{cases_Bool}
use Rattle.std.proofs.lemmas.List.Sums.{sum_by-cons}
use Rattle.std.specs.Option.{option_map}
use Rattle.resp_core.specs.Value.{tree_of}
use Rattle.resp_core.specs.declared.Value.{Value}
use Rattle.splitter.specs.declared.Join.{Join}
use Rattle.splitter.specs.declared.plans.Join.TheVariants.{Same}
use Rattle.splitter.specs.Join.{join_of}
use Rattle.reply_queue.specs.Command.{all_values, reply_to, is_same, same_reply_to}
use Rattle.reply_queue.specs.Places.{values_come, AreKept}

-- none has come
pub values_come-replicate : (n : ℕ) (values : List Value) → length values ≡ n → values_come (replicate n false) values ≡ replicate n None
values_come-replicate zero values e = refl
values_come-replicate (suc n) [] e = absurd (omega arith)
values_come-replicate (suc n) (v ∷ values) e = ap (λ vs. None ∷ vs) (values_come-replicate n values (omega arith))

-- a part without a value is one whose value hasn't come, and the other way round
pub come_where_open : (come : List Bool) (values : List Value) (part : ℕ) → slice_get (values_come come values) part ≡ Some None → slice_get come part ≡ Some false
come_where_open [] values part e = absurd cc
come_where_open (b ∷ come) [] part e = absurd cc
come_where_open (true ∷ come) (v ∷ values) zero e = absurd cc
come_where_open (false ∷ come) (v ∷ values) zero e = refl
come_where_open (b ∷ come) (v ∷ values) (suc part) e = come_where_open come values part e

pub open_where_come : (come : List Bool) (values : List Value) (part : ℕ) → length values ≡ length come → slice_get come part ≡ Some false → slice_get (values_come come values) part ≡ Some None
open_where_come [] values part l e = absurd cc
open_where_come (b ∷ come) [] part l e = absurd (omega arith)
open_where_come (true ∷ come) (v ∷ values) zero l e = absurd cc
open_where_come (false ∷ come) (v ∷ values) zero l e = refl
open_where_come (b ∷ come) (v ∷ values) (suc part) l e = open_where_come come values part (omega arith) e

-- one more has come
pub values_come-set : (come : List Bool) (values : List Value) (part : ℕ) (value : Value) → values_come (slice_set come part true) (slice_set values part value) ≡ slice_set (values_come come values) part (Some (tree_of value))
values_come-set [] values part value = refl
values_come-set (b ∷ come) [] zero value = refl
values_come-set (b ∷ come) [] (suc part) value = refl
values_come-set (b ∷ come) (v ∷ values) zero value = refl
values_come-set (b ∷ come) (v ∷ values) (suc part) value = ap (λ vs. cond b (Some (tree_of v)) None ∷ vs) (values_come-set come values part value)

-- what is missing, at the first part and at the others
count_by-cons : (has_come : Bool) (come : List Bool) → count_by not (has_come ∷ come) ≡ cond (not has_come) 1 0 + count_by not come
count_by-cons has_come come = sum_by-cons (λ b. cond (not b) 1 0) has_come come

-- and one fewer is missing
pub count_by-set : (come : List Bool) (part : ℕ) → slice_get come part ≡ Some false → count_by not (slice_set come part true) + 1 ≡ count_by not come
count_by-set [] part e = absurd cc
count_by-set (true ∷ come) zero e = absurd cc
count_by-set (false ∷ come) zero e = omega (arith, count_by-cons true come, count_by-cons false come)
count_by-set (b ∷ come) (suc part) e = omega (arith, count_by-cons b (slice_set come part true), count_by-cons b come, count_by-set come part e)

-- none is missing
pub all_values-come : (come : List Bool) (values : List Value) → length values ≡ length come → count_by not come ≡ 0 → all_values (values_come come values) ≡ Some (map tree_of values)
all_values-come [] [] l e = refl
all_values-come [] (v ∷ values) l e = absurd (omega arith)
all_values-come (b ∷ come) [] l e = absurd (omega arith)
all_values-come (true ∷ come) (v ∷ values) l e = ap (option_map (λ vs. tree_of v ∷ vs)) (all_values-come come values (omega arith) (omega (arith, count_by-cons true come)))
all_values-come (false ∷ come) (v ∷ values) l e = absurd (omega (arith, count_by-cons false come))

-- one is missing
pub all_values-missing : (come : List Bool) (values : List Value) → length values ≡ length come → 0 < count_by not come → all_values (values_come come values) ≡ None
all_values-missing [] values l h = absurd (omega arith)
all_values-missing (b ∷ come) [] l h = absurd (omega arith)
all_values-missing (true ∷ come) (v ∷ values) l h = ap (option_map (λ vs. tree_of v ∷ vs)) (all_values-missing come values (omega arith) (omega (arith, count_by-cons true come)))
all_values-missing (false ∷ come) (v ∷ values) l h = refl

-- a command has a reply exactly if no value is missing
pub complete_has_reply : (how : Join) (come : List Bool) (values : List Value) (missing : ℕ) → AreKept how come values missing → missing ≡ 0 → reply_to (record { how = how; values = values_come come values }) ≡ Some (join_of how (map tree_of values))
complete_has_reply how come values missing kept e = ap (option_map (join_of how)) (all_values-come come values kept.places (sym kept.count ∙ e))

pub reply_is_complete : (how : Join) (come : List Bool) (values : List Value) (missing : ℕ) → AreKept how come values missing → IsSome (reply_to (record { how = how; values = values_come come values })) → missing ≡ 0
reply_is_complete how come values zero kept e = refl
reply_is_complete how come values (suc missing) kept e =
    let none : all_values (values_come come values) ≡ None = all_values-missing come values kept.places (omega (arith, kept.count)) in
    absurd (cc (ap (λ vs. is_some (option_map (join_of how) vs)) none))

-- where one is missing nothing is the reply
pub same_reply_to-missing : (how : Join) (come : List Bool) (values : List Value) (missing : ℕ) → AreKept how come values missing → 0 < missing → same_reply_to (record { how = how; values = values_come come values }) ≡ None
same_reply_to-missing how come values missing kept l = elim (cases_Bool (is_same how)) [
  | inl t ↦ rw t (ap (option_map (join_of how)) (all_values-missing come values kept.places (omega (arith, l, kept.count))))
  | inr f ↦ rw f refl
]

-- else the one value is
pub same_reply_to-come : (come : List Bool) (values : List Value) (missing : ℕ) → AreKept Same come values missing → missing ≡ 0 → same_reply_to (record { how = Same; values = values_come come values }) ≡ option_map tree_of (slice_get values 0)
same_reply_to-come come [] missing kept e = absurd (omega (arith, kept.places, kept.may_join))
same_reply_to-come come (v ∷ values) missing kept e = complete_has_reply Same come (v ∷ values) missing kept e

-- a part is open exactly if it is there and its value hasn't come
pub is_open_where : (come : List Bool) (values : List Value) (part : ℕ) (has_come : Bool) → length values ≡ length come → slice_get come part ≡ Some has_come → IsTrue (not has_come) ↔ (slice_get (values_come come values) part ≡ Some None)
is_open_where come values part true l e = (λ h. absurd cc, λ h. let f : slice_get come part ≡ Some false = come_where_open come values part h in cc)
is_open_where come values part false l e = (λ h. open_where_come come values part l e, λ h. refl)

pub is_open_past : (come : List Bool) (values : List Value) (part : ℕ) → slice_get come part ≡ None → IsTrue false ↔ (slice_get (values_come come values) part ≡ Some None)
is_open_past come values part e = (λ h. absurd cc, λ h. let f : slice_get come part ≡ Some false = come_where_open come values part h in cc)
