-- What a read does, from what its steps do, and that what was received is delivered.
use Rattle.std.proofs.Common.{◌≡◌, ◌≢◌, ◌⊎◌, inl, inr, ◌∙◌, ◌++◌, ℕ, List, [], Option, Some, None, Result, Ok, Err, IfOk, IfErr, OnErr, IsErrAnd, false, ap, sym, length, take, append-nil, arith}
use Rattle.std.specs.Io.KnownBytes.{Consumes, Keeps}
use Rattle.std.specs.IoError.{error_kind}
use Rattle.std.specs.declared.io.Error.{Error}
use Rattle.std.specs.declared.io.ErrorKind.TheVariants.{WouldBlock}
use Rattle.socket_halves.specs.ReadEnd.{ReadEndState, CountsDown, EndsByPause, Passes, ReadsEnd, Receives}

-- all that was received is delivered
pub delivered_is_received : (old new : ReadEndState) (rest rest' : Option (List ℕ)) (bytes : List ℕ) → Passes old new rest rest' bytes
    → old.delivered ≡ old.received → new.delivered ≡ new.received
delivered_is_received old new rest rest' bytes passed same = passed.delivered ∙ ap (λ t. t ++ bytes) same ∙ sym passed.received

-- no byte was taken off
Consumes-none : (rest rest' : Option (List ℕ)) → Keeps rest rest' → Consumes rest rest' []
Consumes-none None rest' kept = tt
Consumes-none (Some xs) None kept = absurd kept
Consumes-none (Some xs) (Some ys) kept = sym kept

-- A read first receives, and may end the input where that pauses; then what is delivered is logged.
module _ (old mid mid' new : ReadEndState) (rest rest' : Option (List ℕ)) (room : ℕ) (buffer : List ℕ) (fills : length buffer ≡ room)
    (not_over : old.left ≢ Some 0) (kept : mid' ≡ record mid { left = mid'.left }) where
  closed_stays : mid.is_closed ≡ old.is_closed → new.is_closed ≡ mid'.is_closed → new.is_closed ≡ old.is_closed
  closed_stays closed noted = noted ∙ ap (λ s. s.is_closed) kept ∙ closed

  pub reads_end : (received delivered : Result ℕ Error) → Receives old mid rest rest' room received buffer
      → (old.is_readable ≡ false → IsErrAnd received (λ e. error_kind e ≡ WouldBlock)) → IfOk received (λ n. delivered ≡ Ok n)
      → IfErr received (λ e. (delivered ≡ received) ⊎ ((delivered ≡ Ok 0) × EndsByPause mid mid')) → CountsDown mid.left mid'.left delivered
      → IfOk delivered (λ n. new ≡ record mid' { delivered = mid'.delivered ++ take n buffer }) → OnErr delivered (new ≡ mid')
      → ReadsEnd old new rest rest' room delivered buffer
  reads_end (Ok n) delivered receives idle ok err left noted noted' =
      let is_new : new ≡ record mid' { delivered = mid'.delivered ++ take n buffer } = rw ok at noted in
      let counted : CountsDown mid.left mid'.left (Ok n) = rw ok at left in
      let new_left : new.left ≡ mid'.left = ap (λ s. s.left) is_new in
      let readable : new.is_readable ≡ mid.is_readable = ap (λ s. s.is_readable) is_new ∙ ap (λ s. s.is_readable) kept in
      rw ok (record {
        passes = record {
          next = receives.bytes.0;
          received = ap (λ s. s.received) is_new ∙ ap (λ s. s.received) kept ∙ receives.received;
          delivered = ap (λ s. s.delivered) is_new ∙ ap (λ s. s.delivered ++ take n buffer) kept
              ∙ ap (λ t. t ++ take n buffer) receives.delivered;
        };
        ends = λ none some. inl (receives.bytes.1 none (rw fills some));
        over = λ is_over. absurd (not_over is_over);
        idle = λ unreadable none. idle unreadable;
        left = rw (new_left, ← receives.left) counted;
        readable = record {
          paused = tt;
          failed = tt;
          awake = λ some why. readable ∙ receives.readable.awake some why;
          closed = closed_stays receives.readable.closed (ap (λ s. s.is_closed) is_new);
        };
      })
  reads_end (Err e) delivered receives idle ok (inl same) left noted noted' =
      let is_new : new ≡ mid' = rw same at noted' in
      let counted : CountsDown mid.left mid'.left (Err e) = rw same at left in
      let new_left : new.left ≡ mid'.left = ap (λ s. s.left) is_new in
      let readable : new.is_readable ≡ mid.is_readable = ap (λ s. s.is_readable) is_new ∙ ap (λ s. s.is_readable) kept in
      rw same (record {
        passes = record {
          next = Consumes-none rest rest' receives.bytes;
          received = ap (λ s. s.received) is_new ∙ ap (λ s. s.received) kept ∙ receives.received ∙ sym (append-nil old.received);
          delivered = ap (λ s. s.delivered) is_new ∙ ap (λ s. s.delivered) kept ∙ receives.delivered ∙ sym (append-nil old.delivered);
        };
        ends = tt;
        over = λ is_over. absurd (not_over is_over);
        idle = λ unreadable none. idle unreadable;
        left = rw (new_left, ← receives.left) counted;
        readable = record {
          paused = λ pause. readable ∙ receives.readable.paused pause;
          failed = λ other. readable ∙ receives.readable.failed other;
          awake = tt;
          closed = closed_stays receives.readable.closed (ap (λ s. s.is_closed) is_new);
        };
      })
  reads_end (Err e) delivered receives idle ok (inr ends) left noted noted' =
      let is_new : new ≡ record mid' { delivered = mid'.delivered ++ take 0 buffer } = rw ends.0 at noted in
      let counted : CountsDown mid.left mid'.left (Ok 0) = rw ends.0 at left in
      let new_left : new.left ≡ mid'.left = ap (λ s. s.left) is_new in
      rw ends.0 (record {
        passes = record {
          next = Consumes-none rest rest' receives.bytes;
          received = ap (λ s. s.received) is_new ∙ ap (λ s. s.received) kept ∙ receives.received ∙ sym (append-nil old.received);
          delivered = ap (λ s. s.delivered) is_new ∙ ap (λ s. s.delivered ++ []) kept ∙ ap (λ t. t ++ []) receives.delivered;
        };
        ends = λ none some. inr (inr (record {
          was_to_end = λ none. ends.1.was_to_end (receives.left ∙ none);
          is_paused = ap (λ s. s.is_readable) is_new ∙ ends.1.is_paused;
          is_over = new_left ∙ ends.1.is_over;
        }));
        over = λ is_over. absurd (not_over is_over);
        idle = λ unreadable none. absurd (ends.1.was_to_end (receives.left ∙ none));
        left = rw (new_left, ← receives.left) counted;
        readable = record {
          paused = tt;
          failed = tt;
          awake = λ some why. absurd (omega (arith, some));
          closed = closed_stays receives.readable.closed (ap (λ s. s.is_closed) is_new);
        };
      })
