-- What the plain program counts, and what it keeps of a history while it looks at it.
use Rattle.std.specs.Prelude.{◌≡◌, ℕ, ◌+◌, Bool, true, false, if◌then◌else◌, List, [], ◌∷◌, map, reverse, Option, Some, None}
use Rattle.std.specs.Option.{option_map}
use Rattle.resp_core.specs.Tree.{Tree}
use Rattle.command_table.specs.Table.{Row}
use Rattle.command_table.specs.declared.Kind.{Kind}
use Rattle.command_table.specs.declared.Kind.TheVariants.{Ping, Echo, Quit, One, SplitGet, SplitSet, SplitSum}
use Rattle.ejector.specs.Ejection.{state}
use Rattle.ejector.specs.declared.mark.Mark.{Mark}
use Rattle.proxy_history.specs.Setting.{Setting}
use Rattle.proxy_history.specs.History.{History, Step, is_opening, is_any_closing, is_arrival, is_handing, is_fault, is_closing, finishes}
use Rattle.proxy_history.specs.Past.{parts_in, sent_in, marks_in}
use Rattle.proxy_history.specs.Part.{Part, Past, is_same}
use Rattle.proxy_history.specs.Arrival.{no_upstream_host, proxy_busy}
use Rattle.proxy_history.specs.declared.event.Event.{Event}
use Rattle.test_reference.specs.declared.scan.Wanted.{Wanted}
use Rattle.test_reference.specs.declared.scan.Wanted.TheVariants as wanted
use Rattle.test_reference.specs.declared.part.Part.{Part as Part'}
use Rattle.test_reference.specs.declared.part.AtOnce.{AtOnce}
use Rattle.test_reference.specs.declared.replay.Past.{Past as Past'}
use Rattle.test_reference.specs.declared.replay.Replay.{Replay}
use Rattle.test_reference.specs.declared.part.AtOnce.TheVariants as at_once

-- whether an event is of the kind that is looked for
abbrev pub is_wanted : Wanted → Event → Bool
is_wanted wanted.Opening = is_opening
is_wanted wanted.AnyClosing = is_any_closing
is_wanted (wanted.Arrival conn) = is_arrival conn
is_wanted (wanted.Handing conn) = is_handing conn
is_wanted (wanted.Fault host) = is_fault host
is_wanted (wanted.Closing conn) = is_closing conn
is_wanted (wanted.Finishing conn) = finishes conn

-- whether the row is that of QUIT
abbrev pub is_quit_kind : Kind → Bool
is_quit_kind Quit = true
is_quit_kind Ping = false
is_quit_kind Echo = false
is_quit_kind One = false
is_quit_kind SplitGet = false
is_quit_kind SplitSet = false
is_quit_kind SplitSum = false

-- whether a row is QUIT's
abbrev pub is_quit_row : Option Row → Bool
is_quit_row None = false
is_quit_row (Some r) = is_quit_kind r.kind

-- the history of a list of steps that has the oldest first
abbrev pub history_of : List Step → History
history_of steps = reverse steps

-- the value that a part got at once
abbrev pub value_at_once : AtOnce → Tree
value_at_once at_once.NoHost = no_upstream_host
value_at_once at_once.Busy = proxy_busy

-- the part that the program's is
abbrev pub part_of : Part' → Part
part_of p = record {
  conn = p.conn;
  command = p.command;
  number = p.number;
  text = p.text;
  host = p.host;
  epoch = p.epoch;
  local = option_map value_at_once p.local;
}

-- the parts that the program's are
abbrev pub parts_of : List Part' → List Part
parts_of ps = map part_of ps

-- A history with what the plain program keeps of it. The marks are in the ejector's state, and no list of them is kept.
abbrev pub past_of_scan : List Step → List Mark → Replay → Past
past_of_scan steps marks r = record { steps = history_of steps; parts = parts_of r.parts.items; sent = parts_of r.sent.items; marks = marks }

-- the same, where steps and what is kept of them stand together
abbrev pub past_seen : Past' → List Mark → Past
past_seen p marks = past_of_scan p.steps.now marks p.replay.now

-- What is kept of a history is what the history determines.
pub record Shows (S : Setting) (H : History) (r : Replay) : Type 0 where
  pub parts : parts_of r.parts.items ≡ parts_in S H
  pub sent : parts_of r.sent.items ≡ sent_in S H
  pub rules : r.ejector.rules ≡ S.rules
  pub state : r.ejector.state ≡ state S.rules S.opening (marks_in S H)

-- the first of some parts
abbrev pub first_of : List Part → Option Part
first_of [] = None
first_of (p ∷ ps) = Some p

-- the place of the first of these parts that is the same as this one
abbrev pub place_in : Part → List Part → Option ℕ
place_in p [] = None
place_in p (q ∷ qs) = if is_same p q then Some 0 else option_map (λ k. k + 1) (place_in p qs)
