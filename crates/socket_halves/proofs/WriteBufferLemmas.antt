-- How what was accepted goes out, write after write.
use Rattle.std.proofs.Common.{◌≡◌, ◌∙◌, ◌++◌, ◌+◌, ℕ, List, [], ◌∷◌, Option, Some, None, Result, Ok, Err, OnOk, Bool, ◌&&◌, ◌==◌, not, true, false, take, drop, take-append-drop, ap, append_assoc, append-nil, sym, arith, length, refl, inl}
use Rattle.std.proofs.Math.Bool.{and-false}
use Rattle.std.proofs.Math.Seq.{take-length}
use Rattle.std.proofs.lemmas.List.{drop-drop}
use Rattle.std.specs.Io.KnownBytes.{Appends, Keeps, WriteAppends}
use Rattle.std.specs.declared.io.Error.{Error}
use Rattle.socket_halves.specs.Moved.{moved_bytes}
use Rattle.socket_halves.specs.WriteBuffer.{WriteBufferState, Accepts, GoesOut, StaysWritable, accepted}

-- nothing was taken
pub Appends-none : (a : Option (List ℕ)) → Appends a a []
Appends-none None = tt
Appends-none (Some xs) = sym (append-nil xs)

-- what was taken in two pieces
Appends-append : (a b c : Option (List ℕ)) (g h : List ℕ) → Appends a b g → Appends b c h → Appends a c (g ++ h)
Appends-append None b c g h x y = tt
Appends-append (Some xs) None c g h x y = absurd x
Appends-append (Some xs) (Some ys) None g h x y = absurd y
Appends-append (Some xs) (Some ys) (Some zs) g h x y = grind (arith, append_assoc)

-- a write behind one that took nothing
pub Keeps-write : {E : Type 0} (a b c : Option (List ℕ)) (r : Result ℕ E) (bytes : List ℕ) → Keeps a b → WriteAppends b c r bytes → WriteAppends a c r bytes
Keeps-write None b c (Ok n) bytes kept wrote = tt
Keeps-write None b c (Err e) bytes kept wrote = tt
Keeps-write (Some xs) None c r bytes kept wrote = absurd kept
Keeps-write (Some xs) (Some ys) None (Ok n) bytes kept wrote = absurd wrote
Keeps-write (Some xs) (Some ys) None (Err e) bytes kept wrote = absurd wrote
Keeps-write (Some xs) (Some ys) (Some zs) (Ok n) bytes kept wrote = grind (arith, kept, wrote)
Keeps-write (Some xs) (Some ys) (Some zs) (Err e) bytes kept wrote = grind (arith, kept, wrote)

-- a further write that took nothing
pub Keeps-interrupted : {E : Type 0} (a b c : Option (List ℕ)) (r : Result ℕ E) (bytes : List ℕ) (again : Bool) → Keeps a b → WriteAppends b c r bytes
    → OnOk r (again ≡ false) → again ≡ true → Keeps a c
Keeps-interrupted a b c (Ok n) bytes again kept wrote ok is_so = absurd (grind (arith, ok, is_so))
Keeps-interrupted a b c (Err e) bytes again kept wrote ok is_so = Keeps-write a b c (Err e) bytes kept wrote

-- all that was accepted grows by these bytes
pub accepted_goes_out : (a b : WriteBufferState) (bytes : List ℕ) → GoesOut a b bytes → accepted b ≡ accepted a ++ bytes
accepted_goes_out a b bytes out =
    ap (λ t. t ++ b.buffered) out.taken ∙ append_assoc a.taken out.gave b.buffered ∙ ap (λ t. a.taken ++ t) out.left
    ∙ sym (append_assoc a.taken a.buffered bytes)

-- nothing happened
pub GoesOut-none : (a : WriteBufferState) → GoesOut a a []
GoesOut-none a = record { gave = []; taken = sym (append-nil a.taken); held = Appends-none a.held; left = sym (append-nil a.buffered) }

-- what was buffered before goes out, and then these bytes behind what is left
pub GoesOut-then : (a b c : WriteBufferState) (bytes : List ℕ) → GoesOut a b [] → GoesOut b c bytes → GoesOut a c bytes
GoesOut-then a b c bytes first second = record {
  gave = first.gave ++ second.gave;
  taken = second.taken ∙ ap (λ t. t ++ second.gave) first.taken ∙ append_assoc a.taken first.gave second.gave;
  held = Appends-append a.held b.held c.held first.gave second.gave first.held second.held;
  left = append_assoc first.gave second.gave c.buffered ∙ ap (λ t. first.gave ++ t) second.left
      ∙ sym (append_assoc first.gave b.buffered bytes) ∙ ap (λ t. t ++ bytes) (first.left ∙ append-nil a.buffered);
}

-- what goes out, where then neither the writer nor what is buffered changes
pub GoesOut-same : (a b c : WriteBufferState) (bytes : List ℕ) → GoesOut a b bytes → c.held ≡ b.held → c.taken ≡ b.taken → c.buffered ≡ b.buffered
    → GoesOut a c bytes
GoesOut-same a b c bytes out held taken buffered = record {
  gave = out.gave;
  taken = taken ∙ out.taken;
  held = rw held out.held;
  left = rw buffered out.left;
}

-- what is left behind what was written
pub drop-written : (written count : ℕ) (bytes : List ℕ) → take count (drop written bytes) ++ drop (written + count) bytes ≡ drop written bytes ++ []
drop-written written count bytes =
    ap (λ t. take count (drop written bytes) ++ t) (sym (drop-drop count written bytes))
    ∙ take-append-drop count (drop written bytes) ∙ sym (append-nil (drop written bytes))

-- where a write failed there is nothing to write
pub may_write-broken : (is_writable : Bool) (n : ℕ) → (is_writable && not true && not (n == 0)) ≡ false
may_write-broken is_writable n = rw (and-false is_writable) refl

-- what was buffered before goes out, and then these bytes are buffered
pub GoesOut-append : (a b c : WriteBufferState) (bytes : List ℕ) → GoesOut a b [] → c ≡ record b { buffered = b.buffered ++ bytes }
    → GoesOut a c (take (length bytes) bytes)
GoesOut-append a b c bytes out is = rw (is, take-length bytes)
    (GoesOut-then a b (record b { buffered = b.buffered ++ bytes }) bytes out
    (record { gave = []; taken = sym (append-nil b.taken); held = Appends-none b.held; left = refl }))

-- a text that is empty with more behind it
nil_left : (xs ys : List ℕ) → xs ++ ys ≡ [] → xs ≡ []
nil_left [] ys none = refl
nil_left (x ∷ xs) ys none = absurd cc

-- a writer may take more, whatever is buffered after
pub StaysWritable-append : (a b c : WriteBufferState) (bytes : List ℕ) → StaysWritable a b → c ≡ record b { buffered = b.buffered ++ bytes }
    → StaysWritable a c
StaysWritable-append a b c bytes stays is writable unbroken none =
    ap (λ s. s.is_writable) is
    ∙ stays writable (sym (ap (λ s. s.is_broken) is) ∙ unbroken) (nil_left b.buffered bytes (sym (ap (λ s. s.buffered) is) ∙ none))

-- what was buffered before goes out, and then these bytes are accepted
pub Accepts-then : (a b c : WriteBufferState) (bytes : List ℕ) (result : Result ℕ Error) → GoesOut a b [] → Accepts b c bytes result
    → Accepts a c bytes result
Accepts-then a b c bytes result out more = record {
  goes_out = GoesOut-then a b c (moved_bytes result bytes) out more.goes_out;
  paused = more.paused;
  failed = more.failed;
  nothing = more.nothing;
}

-- no bytes
none_of-length : (bytes : List ℕ) → length bytes ≡ 0 → bytes ≡ []
none_of-length [] none = refl
none_of-length (b ∷ bytes) none = absurd (omega arith)

-- what was buffered before goes out, and then these bytes are buffered: all were accepted
pub Accepts-append : (a b c : WriteBufferState) (bytes : List ℕ) → GoesOut a b [] → c ≡ record b { buffered = b.buffered ++ bytes }
    → Accepts a c bytes (Ok (length bytes))
Accepts-append a b c bytes out is = record {
  goes_out = GoesOut-append a b c bytes out is;
  paused = tt;
  failed = tt;
  nothing = λ none. inl (none_of-length bytes none);
}
