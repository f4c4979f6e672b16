-- What a text of lines tells, piece by piece.
use Rattle.std.proofs.Common.{◌≡◌, ◌≢◌, ℕ, zero, suc, ◌+◌, ◌-◌, ◌^◌, ◌≤◌, min, Bool, List, [], ◌∷◌, ◌++◌, length, All, Contains, inl, inr, refl, sym, ◌∙◌, ap, subst, append_assoc, append-nil, arith}
use Rattle.std.specs.List.{AllZip, concat, flat_map}
use Rattle.std.proofs.lemmas.List.{length-append}
use Rattle.std.proofs.lemmas.List.Concat.{flat_map-append}
use Rattle.std.proofs.lemmas.List.Elements.{All-append, All-push, Contains-append_cases}
use Rattle.key_owners.specs.declared.error.KeyFault.{KeyFault}
use Rattle.key_owners.specs.Owners.{Owners}
use Rattle.key_owners.specs.Lines.{AreOwnerLines, IsOwnerLine, MemoryOr, TakesIn, Telling, newline}

-- a line with its newline
abbrev pub ended_line : List ℕ → List ℕ
ended_line line = line ++ newline ∷ []

only : (b x : ℕ) → Contains (b ∷ []) x → b ≡ x
only b x (zero, within, e) = e
only b x (suc k, within, e) = absurd (omega arith)

pub lacks_newline : (xs : List ℕ) (b : ℕ) → ¬ Contains xs newline → b ≢ newline → ¬ Contains (xs ++ b ∷ []) newline
lacks_newline xs b none other is = elim (Contains-append_cases xs (b ∷ []) newline is) [ inl before ↦ none before | inr last ↦ other (only b newline last) ]

pub has_nothing : (xs : List ℕ) → xs ≡ [] → ¬ Contains xs newline
has_nothing [] none (k, within, e) = absurd (omega arith)
has_nothing (x ∷ xs) none is = absurd (cc)

no_lines : All (λ line. ¬ Contains line newline) []
no_lines = λ k d within. absurd (omega arith)

all_zip_append : {A B : Type 0} (R : A → B → Type 0) (xs : List A) (ys : List B) (us : List A) (vs : List B) → AllZip R xs ys → AllZip R us vs → AllZip R (xs ++ us) (ys ++ vs)
all_zip_append R [] [] us vs none more = more
all_zip_append R [] (y ∷ ys) us vs none more = absurd none
all_zip_append R (x ∷ xs) [] us vs none more = absurd none
all_zip_append R (x ∷ xs) (y ∷ ys) us vs some more = (some.0, all_zip_append R xs ys us vs some.1 more)

concat-append : (xss yss : List (List ℕ)) → concat (xss ++ yss) ≡ concat xss ++ concat yss
concat-append [] yss = refl
concat-append (xs ∷ xss) yss = ap (λ l. xs ++ l) (concat-append xss yss) ∙ sym (append_assoc xs (concat xss) (concat yss))

lines_join : (owners : Owners) (is_hex : Bool) (xs ys : List (List ℕ)) (t u : List ℕ) → AreOwnerLines owners is_hex xs t → AreOwnerLines owners is_hex ys u → AreOwnerLines owners is_hex (xs ++ ys) (t ++ u)
lines_join owners is_hex xs ys t u a b = record {
  texts = a.texts ++ b.texts;
  each = all_zip_append (IsOwnerLine owners is_hex) xs a.texts ys b.texts a.each b.each;
  parts = ap (λ l. l ++ u) a.parts ∙ ap (λ l. concat a.texts ++ l) b.parts ∙ sym (concat-append a.texts b.texts);
}

-- nothing is taken in
pub takes_none : (t : Telling) → ¬ Contains t.open_line newline → t.ended ≤ 2 ^ 64 - 1 → TakesIn t [] t []
takes_none t none bound = record {
  lines = [];
  cut = record { parts = append-nil t.open_line; ended = no_lines; rest = none };
  told = record { texts = []; each = tt; parts = refl };
  owners = refl;
  is_hex = refl;
  ended = omega (arith, bound);
}

-- a byte of a line
pub takes_other : (t : Telling) (b : ℕ) → ¬ Contains t.open_line newline → t.ended ≤ 2 ^ 64 - 1 → b ≢ newline → TakesIn t (b ∷ []) (record t { open_line = t.open_line ++ b ∷ [] }) []
takes_other t b none bound other = record {
  lines = [];
  cut = record { parts = refl; ended = no_lines; rest = lacks_newline t.open_line b none other };
  told = record { texts = []; each = tt; parts = refl };
  owners = refl;
  is_hex = refl;
  ended = omega (arith, bound);
}

-- the end of a line
pub takes_newline : (t : Telling) (text : List ℕ) → ¬ Contains t.open_line newline → IsOwnerLine t.owners t.is_hex t.open_line text → TakesIn t (newline ∷ []) (record t { open_line = []; ended = min (t.ended + 1) (2 ^ 64 - 1) }) text
takes_newline t text none told = record {
  lines = t.open_line ∷ [];
  cut = record {
    parts = sym (append-nil _ ∙ append-nil _);
    ended = All-push (λ line. ¬ Contains line newline) [] t.open_line no_lines none;
    rest = has_nothing [] refl;
  };
  told = record { texts = text ∷ []; each = (told, tt); parts = sym (append-nil text) };
  owners = refl;
  is_hex = refl;
  ended = refl;
}

cut_join : (old xs ys open_line more : List ℕ) (ls ms : List (List ℕ)) → old ++ xs ≡ flat_map ended_line ls ++ open_line → open_line ++ ys ≡ flat_map ended_line ms ++ more
    → old ++ (xs ++ ys) ≡ flat_map ended_line (ls ++ ms) ++ more
cut_join old xs ys open_line more ls ms a b =
    sym (append_assoc old xs ys) ∙ ap (λ l. l ++ ys) a ∙ append_assoc (flat_map ended_line ls) open_line ys
    ∙ ap (λ l. flat_map ended_line ls ++ l) b ∙ sym (append_assoc (flat_map ended_line ls) (flat_map ended_line ms) more)
    ∙ ap (λ l. l ++ more) (sym (flat_map-append ended_line ls ms))

counts_join : (a b c n m : ℕ) → b ≡ min (a + n) (2 ^ 64 - 1) → c ≡ min (b + m) (2 ^ 64 - 1) → c ≡ min (a + (n + m)) (2 ^ 64 - 1)
counts_join a b c n m x y = omega (arith, x, y)

-- one piece after another
pub takes_join : (a b c : Telling) (xs ys t u : List ℕ) → TakesIn a xs b t → TakesIn b ys c u → TakesIn a (xs ++ ys) c (t ++ u)
takes_join a b c xs ys t u one two = record {
  lines = one.lines ++ two.lines;
  cut = record {
    parts = cut_join a.open_line xs ys b.open_line c.open_line one.lines two.lines one.cut.parts two.cut.parts;
    ended = All-append (λ line. ¬ Contains line newline) one.lines two.lines one.cut.ended two.cut.ended;
    rest = two.cut.rest;
  };
  told = lines_join a.owners a.is_hex one.lines two.lines t u one.told
      (subst (λ (o : Owners). AreOwnerLines o a.is_hex two.lines u) one.owners (subst (λ (h : Bool). AreOwnerLines b.owners h two.lines u) one.is_hex two.told));
  owners = two.owners ∙ one.owners;
  is_hex = two.is_hex ∙ one.is_hex;
  ended = counts_join a.ended b.ended c.ended (length one.lines) (length two.lines) one.ended two.ended ∙ ap (λ n. min (a.ended + n) (2 ^ 64 - 1)) (sym (length-append one.lines two.lines));
}

-- what follows of a fault follows of it or of no memory
pub memory_or : (e : KeyFault) (P Q : Type 0) → (P → Q) → MemoryOr e P → MemoryOr e Q
memory_or KeyFault.NoMemory P Q f p = tt
memory_or (KeyFault.TooLong line) P Q f p = f p
memory_or (KeyFault.NotHex line) P Q f p = f p
