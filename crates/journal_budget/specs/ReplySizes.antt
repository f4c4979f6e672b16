-- What a connection's next replies are expected to have.
use Rattle.std.specs.Prelude.{◌≤◌, ◌<◌, ◌+◌, ◌-◌, ◌*◌, ◌/◌, ◌++◌, ℕ, List, [], ◌∷◌, All, length, max, min, nat_lt, ◌==◌, if◌then◌else◌}
use Rattle.journal_budget.specs.Budget.{capped}
use Rattle.journal_budget.specs.declared.reply_sizes.TheConstants.{LARGE_REPLY, LATE, LOST_REPLY, MAX_EXPECTED}
use Rattle.journal_budget.specs.declared.payload.TheConstants.{MAX_PART_ERROR}
use Rattle.journal_budget.specs.declared.reply_sizes.HandedReplies.{HandedReplies}

-- the bytes that a large reply is expected to have; the replies counted since LATE of them were last, how many of these were large,
-- and how many of the LATE and more before
pub record SizesState : Type 0 where
  pub expected : ℕ
  pub seen : ℕ
  pub large : ℕ
  pub before : ℕ

-- where no reply has come
abbrev pub no_replies : SizesState
no_replies = record { expected = 0; seen = 0; large = 0; before = 0 }

-- Once a reply of n bytes came the next is expected to have as many or more, and no less than before but for an eighth. More than
-- MAX_EXPECTED bytes are never expected.
abbrev pub expected_after : ℕ → ℕ → ℕ
expected_after n expected = max (min n MAX_EXPECTED) (expected - expected / 8)

-- what is expected once replies of these sizes came, the newest first
abbrev pub expected_after_all : List ℕ → ℕ → ℕ
expected_after_all [] expected = expected
expected_after_all (n ∷ ns) expected = expected_after n (expected_after_all ns expected)

-- the charge of a command: twice the bytes of its reply, as it comes and as it is handed out, where these are many
abbrev pub charge_of : ℕ → ℕ
charge_of expected = if nat_lt expected LARGE_REPLY then 0 else 2 * expected

-- replies with one more, of so many bytes
abbrev pub with_reply : ℕ → HandedReplies → HandedReplies
with_reply bytes replies = record {
  count = capped (replies.count + 1);
  large = if nat_lt bytes LARGE_REPLY then replies.large else capped (replies.large + 1);
  short = if nat_lt MAX_PART_ERROR bytes then replies.short else capped (replies.short + 1);
  greatest = max replies.greatest bytes;
}

-- replies of which the short ones stand for such as found no room, and so are large
abbrev pub with_lost : HandedReplies → HandedReplies
with_lost replies =
    if replies.short == 0 then replies
    else record replies { large = capped (replies.large + replies.short); greatest = max replies.greatest LOST_REPLY }

-- once some replies were counted with those since LATE of them were last
abbrev pub counted_with : HandedReplies → SizesState → SizesState
counted_with replies s = record s { seen = capped (s.seen + replies.count); large = capped (s.large + replies.large) }

-- the count begins anew once LATE are counted
abbrev pub begun_anew : SizesState → SizesState
begun_anew s = if nat_lt s.seen LATE then s else record s { seen = 0; large = 0; before = s.large }

-- once these replies came
abbrev pub noted : HandedReplies → SizesState → SizesState
noted replies s = record (begun_anew (counted_with replies s)) { expected = expected_after replies.greatest s.expected }

-- once these replies came, the newest first
abbrev pub noted_all : List HandedReplies → SizesState → SizesState
noted_all [] s = s
noted_all (replies ∷ rest) s = noted replies (noted_all rest s)

-- how many of so many commands may have large replies: as many of each LATE and of what is left as had of late, but one at least
abbrev pub large_among : ℕ → SizesState → ℕ
large_among commands s = min commands (max 1 (capped (capped (s.large + s.before) * (commands / LATE + 1))))

-- the charge of so many commands
abbrev pub charge_for : ℕ → SizesState → ℕ
charge_for commands s = capped (large_among commands s * charge_of s.expected)

-- how many replies these are
abbrev pub count_of : List HandedReplies → ℕ
count_of [] = 0
count_of (replies ∷ rest) = replies.count + count_of rest

-- how many of them were large
abbrev pub large_of : List HandedReplies → ℕ
large_of [] = 0
large_of (replies ∷ rest) = replies.large + large_of rest

-- LAWS

-- A reply that is large and no greater than expected is within its command's charge.
abbrev pub LargeIsCharged : Type 0
LargeIsCharged = (n expected : ℕ) → LARGE_REPLY ≤ n → n ≤ expected → 2 * n ≤ charge_of expected

-- After 48 replies that aren't large none is expected to be large.
abbrev pub SmallAgain : Type 0
SmallAgain = (ns : List ℕ) (expected : ℕ) → expected ≤ MAX_EXPECTED → All (λ n. n < LARGE_REPLY) ns → 48 ≤ length ns
    → expected_after_all ns expected < LARGE_REPLY

-- Of the newest replies, as far as they are no more than LATE, all large ones are counted.
abbrev pub LateAreCounted : Type 0
LateAreCounted = (new old : List HandedReplies) (s : SizesState) → All (λ r. r.large ≤ r.count) new → count_of new ≤ LATE
    → let now = noted_all (new ++ old) s in large_of new ≤ capped (now.large + now.before)
