-- Which visitor is the oldest of those looked at.
use Rattle.std.specs.Prelude.{IfSome, IfNone, is_some, count_by}
use Rattle.std.proofs.Common.{◌≡◌, ◌<◌, ◌≤◌, ◌+◌, ℕ, suc, sym, ◌∙◌, Option, Some, None, List, [], ◌∷◌, length, get_or, refl, ap, inl, inr, arith}
use Rattle.std.proofs.lemmas.Bool.{cases_lt}
use Rattle.std.proofs.lemmas.List.{get_or_past}
use Rattle.slab.specs.Slab.{Slab, get, slab_len}
use Rattle.proxy_admin.specs.declared.visitor.Visitor.{Visitor}
use Rattle.proxy_admin.specs.Visits.{IsOldest}

-- of the visitors below a key none has been idle longer than this one, since the moment given
pub record IsOldestBelow (visitors : Slab Visitor) (key : ℕ) (oldest : Option ℕ) (least : ℕ) : Type 0 where
  pub first : (k : ℕ) (w : Visitor) → k < key → get visitors k ≡ Some w → least ≤ w.moved
  pub none : oldest ≡ None → (k : ℕ) → k < key → get visitors k ≡ None
  pub greatest : oldest ≡ None → least ≡ 18446744073709551615
  pub is : (at : ℕ) → oldest ≡ Some at → (v : Visitor) × (get visitors at ≡ Some v) × (v.moved ≡ least)

one_value : (v w : Visitor) → Some v ≡ Some w → v ≡ w
one_value v w e = cc

one_key : (k m : ℕ) → Some k ≡ Some m → k ≡ m
one_key k m e = cc

-- a key below the next one is this one, or below it
module _ (visitors : Slab Visitor) (key : ℕ) (oldest : Option ℕ) (least : ℕ) (before : IsOldestBelow visitors key oldest least) where
  -- where nobody has the key
  pub nobody_there : get visitors key ≡ None → IsOldestBelow visitors (key + 1) oldest least
  nobody_there none = record {
    first = λ k w less there. elim (cases_lt k key) [
      | inl below ↦ before.first k w below there
      | inr past ↦ let same : k ≡ key = omega arith in absurd (let at = ap (get visitors) same in cc)
    ];
    none = λ e k less. elim (cases_lt k key) [
      | inl below ↦ before.none e k below
      | inr past ↦ let same : k ≡ key = omega arith in ap (get visitors) same ∙ none
    ];
    greatest = before.greatest;
    is = before.is;
  }

  -- where one is there whose bytes moved later
  pub later_there : (there : Visitor) → get visitors key ≡ Some there → least < there.moved → there.moved < 18446744073709551616
      → IsOldestBelow visitors (key + 1) oldest least
  later_there there is later fits = record {
    first = λ k w less at. elim (cases_lt k key) [
      | inl below ↦ before.first k w below at
      | inr past ↦
          let same : k ≡ key = omega arith in
          let one : Some w ≡ Some there = sym at ∙ ap (get visitors) same ∙ is in
          let moved : w.moved ≡ there.moved = ap (λ v. v.moved) (one_value w there one) in
          omega arith
    ];
    none = λ e k less. absurd (let most = before.greatest e in omega arith);
    greatest = before.greatest;
    is = before.is;
  }

  -- where one is there whose bytes didn't move later
  pub older_there : (there : Visitor) → get visitors key ≡ Some there → there.moved ≤ least
      → IsOldestBelow visitors (key + 1) (Some key) there.moved
  older_there there is older = record {
    first = λ k w less at. elim (cases_lt k key) [
      | inl below ↦ let than = before.first k w below at in omega arith
      | inr past ↦
          let same : k ≡ key = omega arith in
          let one : Some w ≡ Some there = sym at ∙ ap (get visitors) same ∙ is in
          let moved : w.moved ≡ there.moved = ap (λ v. v.moved) (one_value w there one) in
          omega arith
    ];
    none = λ e. absurd cc;
    greatest = λ e. absurd cc;
    is = λ at e. (there, ap (get visitors) (sym (one_key key at e)) ∙ is, refl);
  }

-- at the end it is the oldest of all
pub oldest_of_all : (visitors : Slab Visitor) (key : ℕ) (oldest : Option ℕ) (least : ℕ) → IsOldestBelow visitors key oldest least
    → length visitors.slots ≤ key → IfSome oldest (IsOldest visitors)
oldest_of_all visitors key None least is all = tt
oldest_of_all visitors key (Some at) least is all =
    let (v, there, moved) = is.is at refl in (
      v,
      there,
      λ k w is_there. elim (cases_lt k key) [
        | inl below ↦ let than = is.first k w below is_there in omega arith
        | inr past ↦ absurd (let none = get_or_past visitors.slots k None (omega arith) in cc)
      ],
    )

-- where nobody was found nobody is there
nobody_of_all : (visitors : Slab Visitor) (key : ℕ) (oldest : Option ℕ) (least : ℕ) → IsOldestBelow visitors key oldest least
    → length visitors.slots ≤ key → oldest ≡ None → (k : ℕ) → get visitors k ≡ None
nobody_of_all visitors key oldest least is all e k = elim (cases_lt k key) [
  | inl below ↦ is.none e k below
  | inr past ↦ get_or_past visitors.slots k None (omega arith)
]

pub none_of_all : (visitors : Slab Visitor) (key : ℕ) (oldest : Option ℕ) (least : ℕ) → IsOldestBelow visitors key oldest least
    → length visitors.slots ≤ key → IfNone oldest ((k : ℕ) → get visitors k ≡ None)
none_of_all visitors key None least is all = nobody_of_all visitors key None least is all refl
none_of_all visitors key (Some at) least is all = tt

-- a slab without a value has the length 0
no_values : (slots : List (Option Visitor)) → ((k : ℕ) → get_or slots k None ≡ None) → count_by is_some slots ≡ 0
no_values [] none = refl
no_values (None ∷ rest) none = no_values rest (λ k. none (suc k))
no_values (Some v ∷ rest) none = absurd (let first = none 0 in cc)

pub nobody_counts : (visitors : Slab Visitor) → ((k : ℕ) → get visitors k ≡ None) → slab_len visitors ≡ 0
nobody_counts visitors none = no_values visitors.slots none
