-- The output that waits for a client's socket, and which sockets are stalled.
use Rattle.std.specs.Prelude.{◌≡◌, ◌≤◌, ◌<◌, ◌+◌, ◌-◌, ◌==◌, ◌&&◌, if◌then◌else◌, nat_lt, ℕ, false, length, not}
use Rattle.slab.specs.Slab.{Slab, get}
use Rattle.proxy_engines.specs.Client.{Client}
use Rattle.proxy_connections.specs.declared.waiting_output.WaitingOutput.{WaitingOutput}
use Rattle.proxy_connections.specs.declared.waiting_output.TheConstants.{MAX_USUAL, STALLED_MS}

-- nothing waits
abbrev pub nothing_waits : WaitingOutput
nothing_waits = record { bytes = 0; since = 0 }

-- what waits once it was seen at this moment that so many bytes do
abbrev pub noted_at : ℕ → ℕ → WaitingOutput → WaitingOutput
noted_at now bytes w = if bytes == w.bytes then w else record { bytes = bytes; since = now }

-- the bytes that wait, where these are more than usual and have been as many for a second; else none
abbrev pub stalled_bytes : ℕ → WaitingOutput → ℕ
stalled_bytes now w = if nat_lt MAX_USUAL w.bytes && not (nat_lt (now - w.since) STALLED_MS) then w.bytes else 0

-- More bytes than usual wait for an engine's socket, no write failed, and the engine may take in more.
pub record IsHeldBack (engine : Client) : Type 0 where
  pub many : MAX_USUAL + length engine.outbox.passed.bytes < length engine.outbox.taken
  pub whole : engine.outbox.passed.has_failed ≡ false
  pub takes : engine.is_drained ≡ false
