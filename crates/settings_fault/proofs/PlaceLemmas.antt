-- Where the last line begins.
use Rattle.std.proofs.Common.{◌≡◌, ◌<◌, ◌≤◌, ◌-◌, ℕ, List, true, false, take, drop, length, get_or, arith, not, length-drop}
use Rattle.std.specs.List.{after_last, suffix_len}
use Rattle.std.proofs.lemmas.List.{take_all}
use Rattle.std.proofs.lemmas.List.Sums.{suffix_len_is}
use Rattle.settings_fault.specs.Places.{is_line_break}

-- from a place on with no line break, behind one or at the start, stands what comes after the last one
pub after_last_is : (text : List ℕ) (start : ℕ) → start ≤ length text
    → ((k : ℕ) → start ≤ k → k < length text → not (is_line_break (get_or text k 0)) ≡ true)
    → (0 < start → not (is_line_break (get_or text (start - 1) 0)) ≡ false)
    → take (length text - start) (drop start text) ≡ after_last is_line_break text
after_last_is text start inside no_break broken =
    let len : suffix_len (λ x. not (is_line_break x)) text ≡ length text - start = suffix_len_is (λ x. not (is_line_break x)) text start 0 inside no_break broken in
    let back : length text - suffix_len (λ x. not (is_line_break x)) text ≡ start = omega (arith, len, inside) in
    let all : take (length text - start) (drop start text) ≡ drop start text = take_all (length text - start) (drop start text) (rw (length-drop start text) (omega arith)) in
    rw back all
