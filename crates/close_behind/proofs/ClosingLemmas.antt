-- The requests of a stream, and the first behind which its connection is closed.
use Rattle.std.proofs.Common.{◌≡◌, ◌∙◌, ◌&&◌, ◌||◌, ℕ, Bool, true, false, List, [], ◌∷◌, ◌++◌, inl, inr, refl, ap}
use Rattle.std.specs.List.{list_any}
use Rattle.std.proofs.lemmas.Bool.{cases_Bool}
use Rattle.splitter.specs.declared.plans.Local.{Local}
use Rattle.splitter.specs.Plan.{Plan, here, leave, parts, plan_of, is_last}
use Rattle.splitter.specs.Request.{Request}
use Rattle.splitter.specs.Requests.{finishes}
use Rattle.close_behind.specs.CloseBehind.{Behind, closes_behind, is_among, is_refused, name_of, up_to_closing}

refused_goes_on : (p : Plan) → is_refused p ≡ true → is_last p ≡ false
refused_goes_on (here name v) h = refl
refused_goes_on (leave name v) h = absurd cc
refused_goes_on (parts how ps) h = refl

-- a refused request doesn't finish
pub closing_goes_on : (behind : Behind) (r : Request) → closes_behind behind r ≡ true → finishes r ≡ false
closing_goes_on behind r h =
    elim (cases_Bool (is_refused (plan_of r))) [
      | inl f ↦ refused_goes_on (plan_of r) f
      | inr f ↦ let g : false ≡ true = rw f at h in absurd cc
    ]

-- without names none closes
pub none_named : (r : Request) → closes_behind (record { all = false; names = [] }) r ≡ false
none_named r =
    elim (cases_Bool (is_refused (plan_of r))) [
      | inl f ↦ rw f refl
      | inr f ↦ rw f refl
    ]

pub none_closes-one : (b : Behind) (xs : List Request) (r : Request) → list_any (closes_behind b) xs ≡ false → closes_behind b r ≡ false → list_any (closes_behind b) (xs ++ r ∷ []) ≡ false
none_closes-one b [] r h e = rw e refl
none_closes-one b (x ∷ xs) r h e =
    elim (cases_Bool (closes_behind b x)) [
      | inl f ↦ let g : true ≡ false = rw f at h in cc
      | inr f ↦ let g : list_any (closes_behind b) xs ≡ false = rw f at h in rw f (none_closes-one b xs r g e)
    ]

pub none_closes-append : (b : Behind) (xs ys : List Request) → list_any (closes_behind b) xs ≡ false → list_any (closes_behind b) ys ≡ false → list_any (closes_behind b) (xs ++ ys) ≡ false
none_closes-append b [] ys h e = e
none_closes-append b (x ∷ xs) ys h e =
    elim (cases_Bool (closes_behind b x)) [
      | inl f ↦ let g : true ≡ false = rw f at h in cc
      | inr f ↦ let g : list_any (closes_behind b) xs ≡ false = rw f at h in rw f (none_closes-append b xs ys g e)
    ]

-- where none closes all stand up to the first that does
pub up_to_closing-none : (b : Behind) (xs : List Request) → list_any (closes_behind b) xs ≡ false → up_to_closing b xs ≡ xs
up_to_closing-none b [] h = refl
up_to_closing-none b (x ∷ xs) h =
    elim (cases_Bool (closes_behind b x)) [
      | inl f ↦ let g : true ≡ false = rw f at h in cc
      | inr f ↦ let g : list_any (closes_behind b) xs ≡ false = rw f at h in rw f (ap (λ z. x ∷ z) (up_to_closing-none b xs g))
    ]

-- and else those up to it
pub up_to_closing-first : (b : Behind) (xs : List Request) (r : Request) (others : List Request) → list_any (closes_behind b) xs ≡ false → closes_behind b r ≡ true → up_to_closing b ((xs ++ r ∷ []) ++ others) ≡ xs ++ r ∷ []
up_to_closing-first b [] r others h e = rw e refl
up_to_closing-first b (x ∷ xs) r others h e =
    elim (cases_Bool (closes_behind b x)) [
      | inl f ↦ let g : true ≡ false = rw f at h in cc
      | inr f ↦ let g : list_any (closes_behind b) xs ≡ false = rw f at h in rw f (ap (λ z. x ∷ z) (up_to_closing-first b xs r others g e))
    ]
