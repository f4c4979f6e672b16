-- A journal that was far from full has room while little comes.
use Rattle.std.proofs.Common.{◌≤◌, ◌+◌, ◌-◌, ℕ, arith}
use Rattle.journal_budget.specs.Budget.{capped}
use Rattle.journal_budget.specs.Payload.{PayloadState, HasGrown, IsFarFromFull, HasRoomForCommand, HasRoomForReply}
use Rattle.journal_budget.specs.declared.payload.TheConstants.{FAR_BYTES, FAR_STEPS}
use Rattle.journal_budget.specs.declared.payload_counts.PayloadCounts.{PayloadCounts}
use Rattle.journal_budget.specs.Reported.{IsInRange}
use Rattle.journal_budget.specs.Counts.{with_bytes}

has_grown : (p : PayloadState) (b : PayloadCounts) → IsInRange p → b.kept ≤ FAR_BYTES → b.came ≤ FAR_BYTES
    → b.due ≤ FAR_BYTES → HasGrown p (with_bytes b p)
has_grown p b fits kept came due = record {
  used = omega (arith, kept);
  came = omega (arith, came, fits.0);
  due = omega (arith, due);
  steps = omega (arith, fits.1);
  charged = omega arith;
}

pub far_for_command : (p : PayloadState) (b : PayloadCounts) (owed cost steps unfinished : ℕ) → IsInRange p
    → IsFarFromFull p owed → b.kept ≤ FAR_BYTES → b.came ≤ FAR_BYTES → b.due ≤ FAR_BYTES → cost ≤ FAR_STEPS → unfinished ≤ FAR_BYTES
    → HasRoomForCommand (with_bytes b p) (capped (owed + cost) - steps) unfinished
far_for_command p b owed cost steps unfinished fits far kept came due less few =
    (far (with_bytes b p) (capped (owed + cost) - steps) unfinished (has_grown p b fits kept came due) (omega (arith, less)) few).0

pub far_for_reply : (p : PayloadState) (b : PayloadCounts) (owed unfinished : ℕ) → IsInRange p
    → IsFarFromFull p owed → b.kept ≤ FAR_BYTES → b.came ≤ FAR_BYTES → b.due ≤ FAR_BYTES → unfinished ≤ FAR_BYTES
    → HasRoomForReply (with_bytes b p) unfinished
far_for_reply p b owed unfinished fits far kept came due few =
    (far (with_bytes b p) 0 unfinished (has_grown p b fits kept came due) (omega arith) few).1
