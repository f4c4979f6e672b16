-- The first line of a text.
use Rattle.std.proofs.Common.{◌≡◌, ◌<◌, ◌+◌, ◌-◌, ℕ, true, false, List, [], ◌∷◌, ◌++◌, length, take, drop, get_or, Some, refl, ap, ◌∙◌, arith, append_assoc, lt-ltb}
use Rattle.std.specs.List.{list_all, position, prefix_len}
use Rattle.std.specs.Prelude.{not, ◌==◌}
use Rattle.std.proofs.lemmas.Bool.{and_parts, not-true}
use Rattle.std.proofs.lemmas.List.{length-append, length-drop, take_all}
use Rattle.resp_core.specs.Tree.{is_text_byte}
use Rattle.resp_core.specs.Text.{line, line_end}
use Rattle.proxy_record.specs.ReadBack.{is_end}

no_end : (b : ℕ) → is_text_byte b ≡ true → is_end b ≡ false
no_end b e =
    let p = and_parts (not (b == 13)) (not (b == 10)) e in
    let no_cr : (b == 13) ≡ false = not-true (b == 13) p.0 in
    let no_lf : (b == 10) ≡ false = not-true (b == 10) p.1 in
    rw (no_cr, no_lf) refl

before_end : (s rest : List ℕ) → list_all is_text_byte s ≡ true → prefix_len (λ b. not (is_end b)) (s ++ 13 ∷ rest) ≡ length s
before_end [] rest e = refl
before_end (b ∷ s) rest e =
    let p = and_parts (is_text_byte b) (list_all is_text_byte s) e in
    rw (no_end b p.0) (omega (arith, before_end s rest p.1))

-- a line's end is the first CR or LF
pub end_of_line : (s behind : List ℕ) → list_all is_text_byte s ≡ true → position is_end (s ++ 13 ∷ 10 ∷ behind) ≡ Some (length s)
end_of_line s behind e =
    let within : length s < length (s ++ 13 ∷ 10 ∷ behind) = omega (arith, length-append s (13 ∷ 10 ∷ behind)) in
    rw (before_end s (10 ∷ behind) e, lt-ltb (length s) (length (s ++ 13 ∷ 10 ∷ behind)) within) refl

-- what stands behind the type
pub behind_type : (s behind : List ℕ) → (s ++ line_end) ++ behind ≡ s ++ 13 ∷ 10 ∷ behind
behind_type s behind = append_assoc s line_end behind

take_front : (s rest : List ℕ) → take (length s) (s ++ rest) ≡ s
take_front [] rest = refl
take_front (b ∷ s) rest = ap (λ z. b ∷ z) (take_front s rest)

drop_front : (s rest : List ℕ) → drop (length s) (s ++ rest) ≡ rest
drop_front [] rest = refl
drop_front (b ∷ s) rest = drop_front s rest

-- the end of a line behind its type, and how much stands there
pub line_behind : (bytes s behind : List ℕ) (kind : ℕ) → list_all is_text_byte s ≡ true → bytes ≡ line kind s ++ behind
    → (position is_end (take (length bytes - 1) (drop 1 bytes)) ≡ Some (length s)) × (length bytes ≡ length s + 3 + length behind)
line_behind bytes s behind kind plain is =
    let rest : drop 1 bytes ≡ s ++ 13 ∷ 10 ∷ behind = ap (drop 1) is ∙ behind_type s behind in (
      ap (position is_end) (take_all (length bytes - 1) (drop 1 bytes) (omega (arith, length-drop 1 bytes)) ∙ rest) ∙ end_of_line s behind plain,
      ap length is ∙ omega (arith, length-append (s ++ line_end) behind, length-append s line_end),
    )

-- a line is cut in three
pub cut_line : (old s behind : List ℕ) (kind len : ℕ) → old ≡ line kind s ++ behind → len ≡ length s
    → (get_or old 0 0 ≡ kind) × (take len (drop 1 old) ≡ s) × (drop 2 (drop len (drop 1 old)) ≡ behind)
cut_line old s behind kind len is count =
    let rest : drop 1 old ≡ s ++ 13 ∷ 10 ∷ behind = ap (drop 1) is ∙ behind_type s behind in (
      ap (λ z. get_or z 0 0) is,
      rw (rest, count) (take_front s (13 ∷ 10 ∷ behind)),
      rw (rest, count) (ap (drop 2) (drop_front s (13 ∷ 10 ∷ behind))),
    )
