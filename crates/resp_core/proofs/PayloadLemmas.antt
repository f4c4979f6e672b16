-- Payloads that lie in their text.
use Rattle.std.proofs.Common.{◌≡◌, ◌<◌, ◌≤◌, ◌+◌, ◌-◌, ℕ, List, ◌++◌, length, take, drop, decimal, ap, ◌∙◌, subst, arith}
use Rattle.std.proofs.lemmas.List.{append_assoc, length-append, length-drop, take-append-le, take_all}
use Rattle.std.proofs.lemmas.Fmt.{length-decimal-le}
use Rattle.std.proofs.Math.Seq.{drop-append-add}
use Rattle.resp_core.specs.Tree.{bulk}
use Rattle.resp_core.specs.Grammar.{max_bulk}
use Rattle.resp_core.specs.Text.{line, line_end, text}
use Rattle.resp_core.specs.Payload.{behind_head}
use Rattle.resp_core.specs.SpelledCommand.{IsPlace}
use Rattle.resp_core.proofs.SpellingLengthLemmas.{length_line}

-- the length of a bulk string's text
pub length_bulk : (s : List ℕ) → length (text (bulk s)) ≡ length (decimal (length s)) + 3 + length s + 2
length_bulk s =
    let h = line 36 (decimal (length s)) in
    omega (arith, length-append (h ++ s) line_end, length-append h s, length_line 36 (decimal (length s)))

-- what stands behind the head of a bulk string's text is its payload
pub behind_head_is : (head : ℕ) (b s : List ℕ) → b ≡ text (bulk s) → head + length s + 2 ≡ length b → behind_head head b ≡ s
behind_head_is head b s is len =
    let h = line 36 (decimal (length s)) in
    let split : b ≡ h ++ (s ++ line_end) = is ∙ append_assoc h s line_end in
    let n : head ≡ length h + 0 = omega (arith, len, ap length split, length-append h (s ++ line_end), length-append s line_end) in
    let behind : drop head b ≡ s ++ line_end = ap (drop head) split ∙ ap (λ z. drop z (h ++ (s ++ line_end))) n ∙ drop-append-add h (s ++ line_end) 0 in
    let k : length b - 2 - head ≡ length s = omega (arith, len) in
    ap (take (length b - 2 - head)) behind ∙ ap (λ z. take z (s ++ line_end)) k ∙ take-append-le (length s) s line_end (omega arith) ∙ take_all (length s) s (omega arith)

-- a bulk string that is taken from the front, behind a head of so many bytes
pub record IsTaken (head len : ℕ) (b s rest : List ℕ) : Type 0 where
  pub inside : head + len + 2 ≤ length b
  pub front : take (head + len + 2) b ≡ text (bulk s)
  pub back : drop (head + len + 2) b ≡ rest
  pub places : head + length s + 2 ≡ length (text (bulk s))
  pub small : head < 256

pub is_taken : (head len : ℕ) (b looked s rest : List ℕ) → looked ≡ b → b ≡ text (bulk s) ++ rest → length s ≤ max_bulk → (looked ≡ text (bulk s) ++ rest → IsPlace head len s rest looked) → IsTaken head len b s rest
is_taken head len b looked s rest same is few place =
    let t = text (bulk s) in
    let p = subst (λ (z : List ℕ). IsPlace head len s rest z) same (place (same ∙ is)) in
    let all : head + len + 2 ≡ length t + 0 =
    omega (arith, p.len_is, p.inside, length-drop head b, ap length p.behind, length-append (s ++ line_end) rest, length-append s line_end, ap length is, length-append t rest) in
    record {
      inside = omega (arith, all, ap length is, length-append t rest);
      front = ap (take (head + len + 2)) is ∙ ap (λ z. take z (t ++ rest)) all ∙ take-append-le (length t + 0) t rest (omega arith) ∙ take_all (length t + 0) t (omega arith);
      back = ap (drop (head + len + 2)) is ∙ ap (λ z. drop z (t ++ rest)) all ∙ drop-append-add t rest 0;
      places = omega (arith, all, p.len_is);
      small = omega (arith, all, p.len_is, length_bulk s, length-decimal-le 20 (length s) (omega arith) (omega (arith, few)) (omega (arith, few)));
    }
