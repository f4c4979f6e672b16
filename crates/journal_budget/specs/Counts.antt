-- What contracts see of the counts of steps: what happened, and the bytes of payload.
use Rattle.std.specs.Prelude.{◌+◌, ◌*◌, ℕ, nat_lt, if◌then◌else◌}
use Rattle.journal_budget.specs.Budget.{capped}
use Rattle.journal_budget.specs.Payload.{PayloadState}
use Rattle.journal_budget.specs.ReplySizes.{with_reply}
use Rattle.journal_budget.specs.declared.reply_sizes.HandedReplies.{HandedReplies}
use Rattle.journal_budget.specs.declared.reply_sizes.TheConstants.{LARGE_REPLY}
use Rattle.journal_budget.specs.declared.step_kind.StepKind.{StepKind}
use Rattle.journal_budget.specs.declared.step_kind.StepKind.TheVariants as kinds
use Rattle.journal_budget.specs.declared.turn_counts.TurnCounts.{TurnCounts}
use Rattle.journal_budget.specs.declared.payload_counts.PayloadCounts.{PayloadCounts}
use Rattle.journal_budget.specs.declared.payload_counts.TheConstants.{STEPS_A_REPLY}

-- the counts of nothing
abbrev pub no_counts : TurnCounts
no_counts = record { accepted = 0; handed = none; parts = 0; sent = 0; matched = 0; faults = 0; lost = 0 }
  where
    none : HandedReplies
    none = record { count = 0; large = 0; short = 0; greatest = 0 }

-- the counts once a step of this kind was made, which handed out so many bytes
abbrev pub counted : StepKind → ℕ → TurnCounts → TurnCounts
counted kinds.Handed bytes c = record c { handed = with_reply bytes c.handed }
counted (kinds.Accepted parts) bytes c = record c { accepted = capped (c.accepted + 1); parts = capped (c.parts + parts) }
counted kinds.Sent bytes c = record c { sent = capped (c.sent + 1) }
counted kinds.Matched bytes c = record c { matched = capped (c.matched + 1) }
counted (kinds.Lost parts) bytes c = record c { faults = capped (c.faults + 1); lost = capped (c.lost + parts) }
counted _ bytes c = c

-- no bytes
abbrev pub no_bytes : PayloadCounts
no_bytes = record { kept = 0; came = 0; handed = 0; due = 0; steps = 0 }

-- the bytes of a text that isn't large
abbrev pub unless_large : ℕ → ℕ
unless_large n = if nat_lt n LARGE_REPLY then n else 0

-- the bytes of a part's text, due once its command was accepted
abbrev pub part_bytes : ℕ → PayloadCounts
part_bytes n = record no_bytes { kept = n; due = unless_large n }

-- the bytes of a host's reply, due as it comes and as it is handed out; it stands for the steps of its command in the average
abbrev pub reply_bytes : ℕ → PayloadCounts
reply_bytes n = record no_bytes { kept = n; came = n; due = 2 * unless_large n; steps = STEPS_A_REPLY }

-- two counts of bytes together
abbrev pub plus : PayloadCounts → PayloadCounts → PayloadCounts
plus a b = record {
  kept = capped (a.kept + b.kept);
  came = capped (a.came + b.came);
  handed = capped (a.handed + b.handed);
  due = capped (a.due + b.due);
  steps = capped (a.steps + b.steps);
}

-- a journal's payload with these bytes
abbrev pub with_bytes : PayloadCounts → PayloadState → PayloadState
with_bytes b p = record p {
  used = capped (p.used + b.kept);
  came = capped (p.came + b.came);
  handed = capped (p.handed + b.handed);
  due = capped (p.due + b.due);
  steps = capped (p.steps + b.steps);
}
