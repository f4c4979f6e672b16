-- What is kept of a client's idleness with one sight of it more.
use Rattle.std.proofs.Common.{◌≡◌, ◌↔◌, ◌++◌, ◌∙◌, ℕ, List, [], ◌∷◌, Option, Some, None, true, false, refl, sym, ap, subst, arith, zero, suc}
use Rattle.std.specs.List.{All}
use Rattle.proxy_serve_core.specs.Idleness.{HasRested, HasRestedSince, Lasts, Rests, Tells}
use Rattle.proxy_serve_core.specs.declared.idleness.ClientSight.{ClientSight}
use Rattle.proxy_serve_core.specs.declared.idleness.Idleness.{Idleness}

module _ (came : ℕ) (x : ClientSight) (xs : List ClientSight) where
  all_cons : Rests came x → All (Rests came) xs → All (Rests came) (x ∷ xs)
  all_cons here there zero d less = here
  all_cons here there (suc k) d less = there k d (omega (arith, less))

  all_head : All (Rests came) (x ∷ xs) → Rests came x
  all_head all = all zero x (omega arith)

  all_tail : All (Rests came) (x ∷ xs) → All (Rests came) xs
  all_tail all k d less = all (suc k) d (omega (arith, less))

module _ (sights : List ClientSight) (kept : Idleness) (told : Tells sights kept) where
  -- as many bytes are kept as had come at the first sight of the rest
  newest : (later : List ClientSight) (first : ClientSight) (before : List ClientSight) → sights ≡ later ++ first ∷ before
      → All (Rests first.came) (later ++ first ∷ []) → kept.came ≡ first.came
  newest [] first before are rests = told.came first before are
  newest (x ∷ later) first before are rests = told.came x (later ++ first ∷ before) are ∙ (all_head first.came x (later ++ first ∷ []) rests).1

  -- a client that has rested was at rest at the newest sight
  head_rests : (later : List ClientSight) (first : ClientSight) (before : List ClientSight) → sights ≡ later ++ first ∷ before
      → All (Rests first.came) (later ++ first ∷ [])
      → (other : ClientSight) × (older : List ClientSight) × (sights ≡ other ∷ older) × (other.is_at_rest ≡ true)
  head_rests [] first before are rests = (first, before, are, (all_head first.came first [] rests).0)
  head_rests (x ∷ later) first before are rests = (x, later ++ first ∷ before, are, (all_head first.came x (later ++ first ∷ []) rests).0)

  module _ (sight : ClientSight) (rest : sight.is_at_rest ≡ true) where
    -- one sight more of the same rest
    rests_on : (m : ℕ) → kept.came ≡ sight.came → HasRestedSince sights m → HasRestedSince (sight ∷ sights) m
    rests_on m same h = record {
      later = sight ∷ h.later;
      first = h.first;
      before = h.before;
      are = ap (λ s. sight ∷ s) h.are;
      at = h.at;
      rests = all_cons h.first.came sight (h.later ++ h.first ∷ []) (rest, sym same ∙ newest h.later h.first h.before h.are h.rests) h.rests;
      begins = h.begins;
    }

    -- where there are sights of the same rest before it, the rest doesn't begin at this one
    goes_back : (m n : ℕ) → kept.came ≡ sight.came → HasRestedSince sights n
        → (later : List ClientSight) (first : ClientSight) (before : List ClientSight)
        → sight ∷ sights ≡ later ++ first ∷ before → first.now ≡ m → All (Rests first.came) (later ++ first ∷ [])
        → ((other : ClientSight) (older : List ClientSight) → before ≡ other ∷ older → ¬ (Rests first.came other))
        → HasRestedSince sights m
    goes_back m n same h [] first before are at rests begins =
        let (other, older, is, at_rest) = head_rests h.later h.first h.before h.are h.rests in
        let is_first : first ≡ sight = cc in
        let are_before : before ≡ other ∷ older = cc in
        let came : other.came ≡ first.came = sym (told.came other older is) ∙ same ∙ ap (λ (s : ClientSight). s.came) (sym is_first) in
        absurd (begins other older are_before (at_rest, came))
    goes_back m n same h (x ∷ later) first before are at rests begins = record {
      later = later;
      first = first;
      before = before;
      are = cc;
      at = at;
      rests = all_tail first.came x (later ++ first ∷ []) rests;
      begins = begins;
    }

    stays_at : (n : ℕ) → kept.came ≡ sight.came → kept.since ≡ Some n → Tells (sight ∷ sights) kept
    stays_at n same is = record {
      since = λ m. (
        λ at. rests_on m same ((told.since m).0 at),
        λ h. (told.since m).1 (goes_back m n same ((told.since n).0 is) h.later h.first h.before h.are h.at h.rests h.begins),
      );
      came = λ other older are. cc;
      none = λ other older are none. absurd cc;
    }

    stays_by : (o : Option ℕ) → kept.since ≡ o → kept.came ≡ sight.came → (kept.since ≡ None → ⊥) → Tells (sight ∷ sights) kept
    stays_by None is same some = absurd (some is)
    stays_by (Some n) is same some = stays_at n same is

    pub stays : kept.came ≡ sight.came → (kept.since ≡ None → ⊥) → Tells (sight ∷ sights) kept
    stays same some = stays_by kept.since refl same some

    module _ (news : kept.came ≡ sight.came → kept.since ≡ None) where
      -- the rest begins at this sight
      begins_here : HasRestedSince (sight ∷ sights) sight.now
      begins_here = record {
        later = [];
        first = sight;
        before = sights;
        are = refl;
        at = refl;
        rests = all_cons sight.came sight [] (rest, refl) (λ k d less. absurd (omega (arith, less)));
        begins = λ other older are rests.
            let none : kept.since ≡ None = news (told.came other older are ∙ rests.1) in
            let busy : other.is_at_rest ≡ false = told.none other older are none in
            let at_rest : other.is_at_rest ≡ true = rests.0 in
            cc;
      }

      no_other : (m : ℕ) (later : List ClientSight) (first : ClientSight) (before : List ClientSight)
          → sight ∷ sights ≡ later ++ first ∷ before → first.now ≡ m → All (Rests first.came) (later ++ first ∷ [])
          → ((other : ClientSight) (older : List ClientSight) → before ≡ other ∷ older → ¬ (Rests first.came other))
          → sight.now ≡ m
      no_other m [] first before are at rests begins = cc
      no_other m (x ∷ later) first before are at rests begins =
          let are_older : sights ≡ later ++ first ∷ before = cc in
          let h : HasRestedSince sights m = record { later = later; first = first; before = before; are = are_older; at = at; rests = all_tail first.came x (later ++ first ∷ []) rests; begins = begins } in
          let some : kept.since ≡ Some m = (told.since m).1 h in
          let is_x : x ≡ sight = cc in
          let came : sight.came ≡ first.came = ap (λ (s : ClientSight). s.came) (sym is_x) ∙ (all_head first.came x (later ++ first ∷ []) rests).1 in
          let none : kept.since ≡ None = news (newest later first before are_older (all_tail first.came x (later ++ first ∷ []) rests) ∙ sym came) in
          absurd cc

      pub begins : Tells (sight ∷ sights) (record { came = sight.came; since = Some sight.now })
      begins = record {
        since = λ m. (
          λ at. let is : sight.now ≡ m = cc in subst (λ n. HasRestedSince (sight ∷ sights) n) is begins_here,
          λ h. ap Some (no_other m h.later h.first h.before h.are h.at h.rests h.begins),
        );
        came = λ other older are. let is : sight ≡ other = cc in ap (λ (s : ClientSight). s.came) is;
        none = λ other older are none. absurd cc;
      }

  pub tells_lasts : (now ms : ℕ) → Lasts now ms kept ↔ HasRested now ms sights
  tells_lasts now ms = (
    λ l. (l.0, (told.since l.0).0 l.1, l.2),
    λ h. (h.0, (told.since h.0).1 h.1, h.2),
  )
