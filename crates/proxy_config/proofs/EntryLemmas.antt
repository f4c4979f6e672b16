-- Things beside the entries of an array that give them: X is what an entry gives, `written` how it is
-- written, and `Good` which are taken.
use Rattle.std.proofs.Common.{◌≡◌, ℕ, zero, suc, ◌<◌, List, [], ◌∷◌, ◌++◌, length, take, get_or, All, refl, sym, ap, subst, arith}
use Rattle.std.specs.Prelude.{IfErr, Result, Ok, Err}
use Rattle.std.specs.List.{AllZip}
use Rattle.std.proofs.lemmas.List.Elements.{All-cons}
use Rattle.serde_json.specs.Data.{Data}
use Rattle.serde_json.specs.View.{view, items_view}
use Rattle.serde_json.specs.declared.value.Value.{Value}
use Rattle.proxy_config.specs.declared.config.Host.{Host}
use Rattle.proxy_config.specs.Table.{items_of, host_data}

abbrev pub Gives : {X : Type 0} → (X → Data) → (X → Type 0) → Value → X → Type 0
Gives written Good entry x = (view entry ≡ written x) × Good x

module _ {X : Type 0} (written : X → Data) (Good : X → Type 0) where
  -- one more entry
  pub gives_more : (es : List Value) (xs : List X) (k : ℕ) (d : Value) (x : X) → AllZip (Gives written Good) (take k es) xs → k < length es → Gives written Good (get_or es k d) x → AllZip (Gives written Good) (take (suc k) es) (xs ++ x ∷ [])
  gives_more [] xs k d x z l g = absurd (omega arith)
  gives_more (e ∷ es) [] zero d x z l g = (g, tt)
  gives_more (e ∷ es) (y ∷ xs) zero d x z l g = absurd z
  gives_more (e ∷ es) [] (suc k) d x z l g = absurd z
  gives_more (e ∷ es) (y ∷ xs) (suc k) d x z l g = (z.0, gives_more es xs k d x z.1 (omega arith) g)

  pub gives_written : (es : List Value) (xs : List X) → AllZip (Gives written Good) es xs → items_view es ≡ items_of written xs
  gives_written [] [] z = refl
  gives_written [] (x ∷ xs) z = absurd z
  gives_written (e ∷ es) [] z = absurd z
  gives_written (e ∷ es) (x ∷ xs) z = let rest = gives_written es xs z.1 in let here = z.0.0 in cc

  pub gives_length : (es : List Value) (xs : List X) → AllZip (Gives written Good) es xs → length es ≡ length xs
  gives_length [] [] z = refl
  gives_length [] (x ∷ xs) z = absurd z
  gives_length (e ∷ es) [] z = absurd z
  gives_length (e ∷ es) (x ∷ xs) z = ap suc (gives_length es xs z.1)

  pub gives_good : (es : List Value) (xs : List X) → AllZip (Gives written Good) es xs → All Good xs
  gives_good [] [] z = λ k d l. absurd (omega arith)
  gives_good [] (x ∷ xs) z = absurd z
  gives_good (e ∷ es) [] z = absurd z
  gives_good (e ∷ es) (x ∷ xs) z = All-cons Good x xs z.0.1 (gives_good es xs z.1)

  pub written_length : (es : List Value) (xs : List X) → items_view es ≡ items_of written xs → length es ≡ length xs
  written_length [] [] n = refl
  written_length [] (x ∷ xs) n = absurd (cc)
  written_length (e ∷ es) [] n = absurd (cc)
  written_length (e ∷ es) (x ∷ xs) n = let rest : items_view es ≡ items_of written xs = cc in ap suc (written_length es xs rest)

  pub items_length : (xs ys : List X) → items_of written xs ≡ items_of written ys → length xs ≡ length ys
  items_length [] [] n = refl
  items_length [] (y ∷ ys) n = absurd (cc)
  items_length (x ∷ xs) [] n = absurd (cc)
  items_length (x ∷ xs) (y ∷ ys) n = let rest : items_of written xs ≡ items_of written ys = cc in ap suc (items_length xs ys rest)

  -- each entry of such an array gives one
  written_at : (es : List Value) (xs : List X) (k : ℕ) (d : Value) → items_view es ≡ items_of written xs → All Good xs → k < length es → (x : X) × Gives written Good (get_or es k d) x
  written_at [] xs k d n good l = absurd (omega arith)
  written_at (e ∷ es) [] k d n good l = absurd (cc)
  written_at (e ∷ es) (x ∷ xs) zero d n good l = (x, (cc, good 0 x (omega arith)))
  written_at (e ∷ es) (x ∷ xs) (suc k) d n good l =
      let rest : items_view es ≡ items_of written xs = cc in
      let others : All Good xs = λ i y below. good (suc i) y (omega arith) in
      written_at es xs k d rest others (omega arith)

  -- so an entry that gives none is in no such array
  pub none_written : (es : List Value) (xs : List X) (k : ℕ) (e : Value) → items_view es ≡ items_of written xs → All Good xs → k < length es → e ≡ get_or es k e → ((x : X) → Gives written Good e x → ⊥) → ⊥
  none_written es xs k e n good l is none =
      let w = written_at es xs k e n good l in
      let P : Value → Type 0 = λ entry. Gives written Good entry w.0 in
      none w.0 (subst P (sym is) w.1)

-- the same names at each place
pub names_same : (hs gs : List Host) (k : ℕ) (d : Host) → items_of host_data hs ≡ items_of host_data gs → (get_or hs k d).name ≡ (get_or gs k d).name
names_same [] [] k d n = refl
names_same [] (g ∷ gs) k d n = absurd (cc)
names_same (h ∷ hs) [] k d n = absurd (cc)
names_same (h ∷ hs) (g ∷ gs) zero d n = cc
names_same (h ∷ hs) (g ∷ gs) (suc k) d n = let rest : items_of host_data hs ≡ items_of host_data gs = cc in names_same hs gs k d rest

-- what holds of every error
pub all_err : {X E : Type 0} (P : E → Type 0) (r : Result X E) → ((e : E) → P e) → IfErr r P
all_err P (Ok x) f = tt
all_err P (Err e) f = f e
