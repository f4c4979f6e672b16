-- The requests of a stream.
use Rattle.std.proofs.Common.{◌≡◌, true, false, List, [], ◌∷◌, ◌++◌, map, inl, inr, refl, sym, ap, ◌∙◌, append_assoc}
use Rattle.std.specs.List.{list_any}
use Rattle.std.proofs.lemmas.Bool.{cases_Bool}
use Rattle.limits.specs.declared.messages.TheConstants.{MAX_CLIENT_MEMBERS}
use Rattle.std.proofs.lemmas.List.{map-append}
use Rattle.resp_core.proofs.CallerLemmas.{each_stream_holds, one_holding, values_go_on}
use Rattle.splitter.specs.Request.{Request, read}
use Rattle.splitter.specs.Requests.{end_of, finishes, up_to_last}
use Rattle.splitter.specs.Laws.{EachStreamAsks, OneAsking, RequestsGoOn}

-- none finishes with one request more that doesn't
pub none_finishes-one : (xs : List Request) (r : Request) → list_any finishes xs ≡ false → finishes r ≡ false → list_any finishes (xs ++ r ∷ []) ≡ false
none_finishes-one [] r h e = rw e refl
none_finishes-one (x ∷ xs) r h e =
    elim (cases_Bool (finishes x)) [
      | inl f ↦ let g : true ≡ false = rw f at h in cc
      | inr f ↦ let g : list_any finishes xs ≡ false = rw f at h in rw f (none_finishes-one xs r g e)
    ]

-- nor with more requests of which none does
pub none_finishes-append : (xs ys : List Request) → list_any finishes xs ≡ false → list_any finishes ys ≡ false → list_any finishes (xs ++ ys) ≡ false
none_finishes-append [] ys h e = e
none_finishes-append (x ∷ xs) ys h e =
    elim (cases_Bool (finishes x)) [
      | inl f ↦ let g : true ≡ false = rw f at h in cc
      | inr f ↦ let g : list_any finishes xs ≡ false = rw f at h in rw f (none_finishes-append xs ys g e)
    ]

-- where none finishes all stand up to the last
pub up_to_last-none : (xs : List Request) → list_any finishes xs ≡ false → up_to_last xs ≡ xs
up_to_last-none [] h = refl
up_to_last-none (x ∷ xs) h =
    elim (cases_Bool (finishes x)) [
      | inl f ↦ let g : true ≡ false = rw f at h in cc
      | inr f ↦ let g : list_any finishes xs ≡ false = rw f at h in rw f (ap (λ z. x ∷ z) (up_to_last-none xs g))
    ]

-- and else those up to the first that finishes
pub up_to_last-first : (xs : List Request) (r : Request) (others : List Request) → list_any finishes xs ≡ false → finishes r ≡ true → up_to_last ((xs ++ r ∷ []) ++ others) ≡ xs ++ r ∷ []
up_to_last-first [] r others h e = rw e refl
up_to_last-first (x ∷ xs) r others h e =
    elim (cases_Bool (finishes x)) [
      | inl f ↦ let g : true ≡ false = rw f at h in cc
      | inr f ↦ let g : list_any finishes xs ≡ false = rw f at h in rw f (ap (λ z. x ∷ z) (up_to_last-first xs r others g e))
    ]

pub each_stream_asks : EachStreamAsks
each_stream_asks b = let (ts, refused, holds) = each_stream_holds MAX_CLIENT_MEMBERS b in (map read ts ++ end_of refused, (ts, refused, holds, refl))

pub one_asking : OneAsking
one_asking b rs qs (ts, refused, holds, is) (us, other, held, same) =
    let k = one_holding MAX_CLIENT_MEMBERS b ts us refused other holds held in
    is ∙ ap (λ z. map read z ++ end_of refused) k.0 ∙ ap (λ z. map read us ++ end_of z) k.1 ∙ sym same

pub requests_go_on : RequestsGoOn
requests_go_on b more rest ts rs splits (us, refused, holds, is) = (
  ts ++ us,
  refused,
  values_go_on MAX_CLIENT_MEMBERS b more rest ts us refused splits holds,
  ap (λ z. map read ts ++ z) is ∙ sym (append_assoc (map read ts) (map read us) (end_of refused)) ∙ ap (λ z. z ++ end_of refused) (sym (map-append read ts us)),
)
